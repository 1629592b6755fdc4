-- Where the bus is after a step: a step never takes it, so a grant that is held stays held.
use Rattle.std.proofs.Common.{◌≡◌, Some, None, Option, sym, refl, subst}
use Rattle.controller.specs.declared.controller.Bus.{Bus}
use Rattle.controller.specs.declared.controller.Bus.TheVariants.{Home, Out, Taken}
use Rattle.controller.specs.declared.grant.Grant.{Grant}
use Rattle.controller.specs.Steps.{State, step_at, step_of}
use Rattle.runs.specs.Calls.{Holding}
use Rattle.runs.proofs.Stepping.{Keeps, Any, step_keeps}

-- without a grant the bus is here or out, and a step leaves it so
abbrev Free : State → Type 0
Free s = Holding None s.bus

free_keeps : Keeps Free Any
free_keeps = record { put = λ s c x h. h; serves = λ s c g h. h; idles = λ s h. h; carries = λ s o h. h; sends = λ s c h. tt }

-- a grant stays held over a step
at_home : (g : Option Grant) (s : State) → s.bus ≡ Home → Holding g Home → Holding g (step_at s Home).0.bus
at_home None s e h = step_keeps Free Any free_keeps (λ s w e h. (tt, h)) (λ s c e h. tt) s Home (rw e tt)
at_home (Some g) s e h = absurd h

held_at : (g : Option Grant) (s : State) (b : Bus) → s.bus ≡ b → Holding g b → Holding g (step_at s b).0.bus
held_at g s Home e h = at_home g s e h
held_at g s (Out c) e h = rw e h
held_at g s (Taken c) e h = rw e h

pub step_holding : (g : Option Grant) (s t : State) → t ≡ (step_of s).0 → Holding g s.bus → Holding g t.bus
step_holding g s t e h = let P : State → Type 0 = λ x. Holding g x.bus in subst P (sym e) (held_at g s s.bus refl h)
