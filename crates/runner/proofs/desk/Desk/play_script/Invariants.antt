-- The script up to here is played, and its answers stand in the output.
use Rattle.std.proofs.Common.{◌≡◌}
use Rattle.script.specs.Reads.{coming}
use Rattle.controller.specs.Outside.{outside_of}
use Rattle.runner.specs.Plays.{run_at}
use Rattle.runner.proofs.Running.{Running}
use Rattle.runner.proofs.desk.Desk.play_script.Given as goal

abbrev pub invariant-loop-command : goal.invariant-loop-command
invariant-loop-command g l =
    Running l.script (run_at l.fn.self (outside_of g.M.Memory g.B.PortBank l.fn.memory l.fn.bank)) l.fn.output
    (coming l.command-iterator) (run_at l.self (outside_of g.M.Memory g.B.PortBank l.memory l.bank)) l.done l.output
    × (g.M.Memory.fixed l.memory ≡ g.M.Memory.fixed l.fn.memory)
