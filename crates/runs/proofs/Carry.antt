-- Carrying: what each call carries, and a whole run.
use Rattle.std.proofs.Common.{◌≡◌, ℕ, Bool, true, false, cond, List, [], ◌∷◌, ◌++◌, sym, refl, ap, ◌∙◌, append_assoc, arith, length-append}
use Rattle.controller.specs.declared.grant.Cycle.{Cycle}
use Rattle.controller.specs.declared.grant.Cycle.TheVariants as cycle
use Rattle.controller.specs.Steps.{State, with_world}
use Rattle.controller.specs.Grants.{holds, out_to, kind_number, cycle_address, cycled, released}
use Rattle.runs.specs.declared.calls.Call.{Call}
use Rattle.runs.specs.declared.calls.Call.TheVariants as call
use Rattle.runs.specs.Calls.{run, ended, performed}
use Rattle.runs.specs.Words.{goes_in, goes_out, stored_bytes, stored_by_cycle}
use Rattle.runs.specs.Law.{Carried, carried_out, latest}
use Rattle.runs.proofs.Runs.{turn_of}
use Rattle.runs.proofs.Exchange.{Exchanged, nothing, no_units, cycle_stores}
use Rattle.runs.proofs.Served.{step_carries}

-- what one call carries
abbrev pub Carries : State → Call → Type 0
Carries s k = Exchanged s.world (λ c. goes_in c (turn_of s k)) (λ c. goes_out c (turn_of s k)) (stored_bytes (turn_of s k)) (performed s k).0.world

-- without a grant that holds a cycle stores nothing
cycle_carries : (s : State) (x : Cycle) (q : Bool) → let n = cond q (kind_number x (s.world.kinds (cycle_address x))) 12 in
    Exchanged s.world no_units no_units (stored_by_cycle x n) (cond q (with_world (cycled x s.world) s) s).world
cycle_carries s x true = cycle_stores x s.world
cycle_carries s (cycle.Read a) false = nothing s.world
cycle_carries s (cycle.Write a b) false = nothing s.world

-- a release leaves the world, whether it is accepted or not
release_carries : (s : State) (g : ℕ) (q : Bool) → holds s.bus g ≡ q → Exchanged s.world no_units no_units [] (released g s).world
release_carries s g true e = rw e (nothing s.world)
release_carries s g false e = rw e (nothing s.world)

pub carries : (s : State) (k : Call) → Carries s k
carries s (call.Write p v) = nothing s.world
carries s (call.Read p) = nothing s.world
carries s (call.Lines b) = nothing s.world
carries s call.Step = step_carries s
carries s (call.Inspect c) = nothing s.world
carries s call.Take = nothing s.world
carries s (call.Cycle x) = cycle_carries s x (holds s.bus (out_to s.bus))
carries s call.Release = release_carries s (out_to s.bus) (holds s.bus (out_to s.bus)) refl

-- a run carries what its calls carry, one after another
pub carried : (s : State) (ks : List Call) → Carried s.world (run s ks) (ended s ks).world
carried s [] = let z = nothing s.world in record { waited = z.waited; kept = z.kept; places = z.places; bytes = z.bytes; kinds = z.kinds }
carried s (k ∷ ks) =
    let t = turn_of s k in
    let h = run (performed s k).0 ks in
    let one = carries s k in
    let rest = carried (performed s k).0 ks in
    record {
      waited = λ c. one.waited c ∙ ap (λ l. goes_in c t ++ l) (rest.waited c) ∙ sym (append_assoc (goes_in c t) _ _);
      kept = λ c. rest.kept c ∙ ap (λ l. l ++ carried_out c h) (one.kept c) ∙ append_assoc (s.world.kept c) _ _;
      places = λ c. omega (arith, one.places c, rest.places c, length-append (goes_out c t) (carried_out c h));
      bytes = λ x. rest.bytes x ∙ ap (λ old. latest x old h) (one.bytes x);
      kinds = rest.kinds ∙ one.kinds;
    }
