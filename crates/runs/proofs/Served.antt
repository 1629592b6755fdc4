-- What a step carries: the unit of its transfer, and nothing otherwise.
use Rattle.std.proofs.Common.{◌≡◌, ℕ, Bool, true, false, cond, not, ◌&&◌, eqb, ltb, [], Some, None, Ok, Err, Option, Result, sym, refl, ap, ◌∙◌}
use Rattle.arbiter.specs.declared.groups.Choice.{Choice}
use Rattle.registers.specs.declared.file.Registers.{Registers}
use Rattle.registers.specs.Modes.{is_cascade}
use Rattle.registers.specs.Groups.{slot_of}
use Rattle.registers.specs.File.{channel_of, with_service}
use Rattle.controller.specs.declared.controller.Bus.{Bus}
use Rattle.controller.specs.declared.controller.Bus.TheVariants.{Home, Out, Taken}
use Rattle.controller.specs.declared.event.Event.{Event}
use Rattle.controller.specs.declared.fault.Fault.{Fault}
use Rattle.controller.specs.declared.fetching.Fetched.{Fetched as Entry}
use Rattle.controller.specs.Outside.{Outside}
use Rattle.controller.specs.Passing.{passes}
use Rattle.controller.specs.Asking.{first_fetching}
use Rattle.controller.specs.Fetching.{fetch_of}
use Rattle.controller.specs.Steps.{State, with_registers, choice_of, begun, ongoing}
use Rattle.controller.specs.Steps.{moves, transfer_of, fills, fetch_step, lends, service_of, settled, serve, ahead_of, choose_of, go_or_choose, step_at, step_of}
use Rattle.runs.specs.Words.{Move, moved_by, of_channel, units_in, units_out, stored_by_move, in_by, out_by, stored_when, way_of}
use Rattle.runs.proofs.Exchange.{Exchanged, same, nothing, Came, came}

-- what a step from s carries, by the modes of the channels before it
abbrev pub StepCarries : State → State × Result Event Fault → Type 0
StepCarries s p = let m = moved_by p.1 in
    Exchanged s.world (λ c. units_in s (of_channel c m)) (λ c. units_out s (of_channel c m)) (stored_by_move s m) p.0.world

-- a transfer's units are those of its channel, the way that its mode says
units_in_lem : (s : State) (m : Move) (q : Bool) → units_in s (cond q (Some m) None) ≡ cond q (in_by (way_of s m) m.unit) []
units_in_lem s m true = refl
units_in_lem s m false = refl

units_out_lem : (s : State) (m : Move) (q : Bool) → units_out s (cond q (Some m) None) ≡ cond q (out_by (way_of s m) m.unit) []
units_out_lem s m true = refl
units_out_lem s m false = refl

-- a transfer that came through carries its unit; a fault nothing
moved_carries : (s : State) (k : Registers) (c : ℕ) → channel_of k c ≡ channel_of s.registers c → (r : Outside × Result ℕ Fault)
    → Came (channel_of k c).mode.transfer s.world c (channel_of k c).addressing (passes (channel_of k c)) r
    → StepCarries s (moves (with_registers k s) c r)
moved_carries s k c e (p, Ok u) x = same s.world p _ _ _ _ _ _ x
    (λ d. units_in_lem s _ (eqb d c) ∙ ap (λ ch. cond (eqb d c) (in_by ch.mode.transfer u) []) (sym e))
    (λ d. units_out_lem s _ (eqb d c) ∙ ap (λ ch. cond (eqb d c) (out_by ch.mode.transfer u) []) (sym e))
    (ap (λ ch. stored_when ch.mode.transfer ch.addressing (passes (channel_of k c)) u) (sym e))
moved_carries s k c e (p, Err f) x = rw x (nothing s.world)

transfer_carries : (s : State) (k : Registers) (c : ℕ) → channel_of k c ≡ channel_of s.registers c → StepCarries s (transfer_of (with_registers k s) c)
transfer_carries s k c e = let ch = channel_of k c in moved_carries s k c e _ (came ch.mode.transfer s.world c ch.addressing (passes ch))

-- a fetch carries nothing
fetch_carries : (s : State) (k : Registers) (c : ℕ) (r : Result Entry Fault) → StepCarries s (fills (with_registers k s) c r)
fetch_carries s k c (Ok x) = nothing s.world
fetch_carries s k c (Err f) = nothing s.world

either : (s : State) (q : Bool) (x y : State × Result Event Fault) → StepCarries s x → StepCarries s y → StepCarries s (cond q x y)
either s true x y a b = a
either s false x y a b = b

-- what a fault does to its channel carries nothing more
settled_carries : (s : State) (c : ℕ) (p : State × Result Event Fault) → StepCarries s p → StepCarries s (settled c p)
settled_carries s c (t, Ok e) x = x
settled_carries s c (t, Err f) x = x

serve_carries : (s : State) (k : Registers) (c : ℕ) → channel_of k c ≡ channel_of s.registers c → StepCarries s (serve (with_registers k s) c)
serve_carries s k c e = let t = with_registers k s in
    settled_carries s c (service_of t c)
    (either s (is_cascade (channel_of k c).mode.service) (lends t c) _ (nothing s.world)
    (either s ((channel_of k c).list.active && not (channel_of k c).list.loaded) (fetch_step t c) (transfer_of t c)
    (fetch_carries s k c (fetch_of s.world.kinds s.world.bytes c (channel_of k c).list)) (transfer_carries s k c e)))

-- a service that begins leaves the channels as they were
pub begun_channel : (w : Choice) (k : Registers) (c : ℕ) → channel_of (begun w k) c ≡ channel_of k c
begun_channel w k c = by_group (ltb c 4)
  where
    by_group : (q : Bool) → slot_of (cond q (begun w k).first (begun w k).second) c ≡ slot_of (cond q k.first k.second) c
    by_group true = refl
    by_group false = refl

ahead_carries : (s : State) (k : Registers) (o : Option ℕ) → StepCarries s (ahead_of (with_registers k s) o)
ahead_carries s k None = nothing s.world
ahead_carries s k (Some c) = settled_carries s c _ (fetch_carries s k c (fetch_of s.world.kinds s.world.bytes c (channel_of k c).list))

choose_carries : (s : State) (o : Option Choice) → StepCarries s (choose_of s o)
choose_carries s (Some w) = serve_carries s (begun w s.registers) w.channel (begun_channel w s.registers w.channel)
choose_carries s None = ahead_carries s (with_service None s.registers) (first_fetching s.registers)

go_carries : (s : State) (o : Option ℕ) → StepCarries s (go_or_choose s o)
go_carries s (Some c) = serve_carries s s.registers c refl
go_carries s None = choose_carries s (choice_of s.registers)

at_carries : (s : State) (b : Bus) → StepCarries s (step_at s b)
at_carries s Home = go_carries s (ongoing s.registers s.registers.service)
at_carries s (Out c) = nothing s.world
at_carries s (Taken c) = nothing s.world

pub step_carries : (s : State) → StepCarries s (step_of s)
step_carries s = at_carries s s.bus
