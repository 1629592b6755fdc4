-- A chosen channel is served from the state in which its service has begun.
use Rattle.std.proofs.Common.{◌≡◌, Some, Result, subst}
use Rattle.arbiter.specs.declared.groups.Choice.{Choice}
use Rattle.controller.specs.declared.fault.Fault.{Fault}
use Rattle.controller.specs.declared.event.Event.{Event}
use Rattle.controller.specs.Outside.{Does}
use Rattle.controller.specs.Steps.{State, with_registers, choice_of, begun, serve, choose_of}

pub chosen_serves : (s t u : State) (w : Choice) (r : Result Event Fault) → choice_of s.registers ≡ Some w → u ≡ with_registers (begun w s.registers) s
    → Does (serve u w.channel) t r → Does (choose_of s (choice_of s.registers)) t r
chosen_serves s t u w r chosen began does =
    let P : State → Type 0 = λ x. Does (serve x w.channel) t r in
    rw chosen (subst P began does)
