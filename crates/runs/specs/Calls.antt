-- The machine: what each call does, and what it answers.
use Rattle.std.specs.Prelude.{ℕ, List, [], ◌∷◌, map, Some, None, Option}
use Rattle.std.specs.Coded.{Unit-prop, Coded-set, coded_ℕ}
use Rattle.std.proofs.Math.Path as Path
use Rattle.registers.specs.File.{write_number, written, read_number, read_value, read_leaves, lines_number, lined}
use Rattle.controller.specs.declared.controller.Controller.{Controller}
use Rattle.controller.specs.declared.controller.Bus.{Bus}
use Rattle.controller.specs.declared.grant.Grant.{Grant}
use Rattle.controller.specs.declared.controller.Bus.TheVariants.{Home, Out, Taken}
use Rattle.controller.specs.Steps.{State, state_of, with_registers, with_bus, step_of}
use Rattle.controller.specs.Outside.{Outside, Does}
use Rattle.controller.specs.Inspecting.{inspect_number, inspected}
use Rattle.controller.specs.Grants.{take_number, took_bus, out_to, cycle_number, cycle_value, after_cycle, release_number, released}
use Rattle.runs.specs.declared.calls.Call.{Call}
use Rattle.runs.specs.declared.calls.Call.TheVariants as call
use Rattle.runs.specs.declared.calls.Answer.{Answer}
use Rattle.runs.specs.Told.{Told, told_of}
use Rattle.runs.specs.Told as told

-- the channel of the grant that a take gives, 0 where it is refused
abbrev pub granted_to : Bus → ℕ
granted_to Home = 0
granted_to (Out c) = c
granted_to (Taken c) = 0

-- a call's state afterwards, and its answer; cycles and releases use the grant of the channel that the bus is out to
abbrev pub performed : State → Call → State × Told
performed s (call.Write p v) = (with_registers (written p v s.registers) s, told.Write (write_number s.registers p v))
performed s (call.Read p) = (with_registers (read_leaves p s.registers) s, told.Read (read_number p) (read_value s.registers p))
performed s (call.Lines b) = (with_registers (lined b s.registers) s, told.Lines (lines_number b))
performed s call.Step = ((step_of s).0, told.Step (step_of s).1)
performed s (call.Inspect c) = (s, told.Inspect (inspect_number c) (inspected s.registers c).address (inspected s.registers c).count)
performed s call.Take = (with_bus (took_bus s.bus) s, told.Take (take_number s.bus) (granted_to s.bus))
performed s (call.Cycle x) = (after_cycle (out_to s.bus) x s, told.Cycle (cycle_number s (out_to s.bus) x) (cycle_value s (out_to s.bus) x))
performed s call.Release = (released (out_to s.bus) s, told.Release (release_number s (out_to s.bus)))

-- a call that touches neither memory nor devices: whatever a controller works on, it becomes and answers what the machine does
abbrev pub Performs : Controller → Call → Controller → Answer → Type 0
Performs old k new r = (o : Outside) → Does (performed (state_of old o) k) (state_of new o) (told_of r)

-- a grant is held exactly while the bus is taken, and for the channel that it is out to
abbrev pub Holding : Option Grant → Bus → Type 0
Holding None Home = Unit {0}
Holding None (Out c) = Unit {0}
Holding None (Taken c) = ⊥
Holding (Some g) Home = ⊥
Holding (Some g) (Out c) = ⊥
Holding (Some g) (Taken c) = Path.◌≡◌ g.channel c

-- any two proofs of that are the same, so that a holder can keep one
pub Holding-prop : (g : Option Grant) (b : Bus) → IsProp (Holding g b)
Holding-prop None Home = Unit-prop
Holding-prop None (Out c) = Unit-prop
Holding-prop None (Taken c) = λ x y. absurd x
Holding-prop (Some g) Home = λ x y. absurd x
Holding-prop (Some g) (Out c) = λ x y. absurd x
Holding-prop (Some g) (Taken c) = Coded-set coded_ℕ g.channel c

-- one call of a run: the states before and after it, and its answer
pub record Turn : Type 0 where
  pub before : State
  pub call : Call
  pub answer : Told
  pub after : State

-- a run: each call starts from what the earlier ones left
abbrev pub run : State → List Call → List Turn
run s [] = []
run s (k ∷ ks) = record { before = s; call = k; answer = (performed s k).1; after = (performed s k).0 } ∷ run (performed s k).0 ks

-- the state that a run ends in
abbrev pub ended : State → List Call → State
ended s [] = s
ended s (k ∷ ks) = ended (performed s k).0 ks

-- what a run answered, call after call
abbrev pub answers_of : List Turn → List Told
answers_of h = map (λ (t : Turn). t.answer) h
