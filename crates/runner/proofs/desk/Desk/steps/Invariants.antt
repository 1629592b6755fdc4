-- Some of the steps are done, and nothing is known of memory but what the steps say.
use Rattle.std.proofs.Common.{◌≡◌}
use Rattle.controller.specs.Outside.{outside_of}
use Rattle.runner.specs.Plays.{run_at}
use Rattle.runner.proofs.Stepping.{Stepping}
use Rattle.runner.proofs.desk.Desk.steps.Given as goal

abbrev pub invariant-loop-steps : goal.invariant-loop-steps
invariant-loop-steps g l =
    Stepping l.count
    (run_at l.initial.self (outside_of g.M.Memory g.B.PortBank l.initial.memory l.initial.bank))
    (run_at l.self (outside_of g.M.Memory g.B.PortBank l.memory l.bank))
    l.steps l.transfers
    × (g.M.Memory.fixed l.memory ≡ g.M.Memory.fixed l.initial.memory)
