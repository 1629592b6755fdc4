use Rattle.std.proofs.Common.{◌≡◌}
use Rattle.controller.specs.Outside.{outside_of}
use Rattle.controller.specs.Steps.{state_of, fresh}
use Rattle.runs.proofs.Whole.{Going}
use Rattle.runs.proofs.play.play.Given as goal

abbrev pub invariant-loop-i : goal.invariant-loop-i
invariant-loop-i g l =
    let m = g.M.Memory in
    let b = g.B.PortBank in
    Going (fresh (outside_of m b l.initial.memory l.initial.bank)) (state_of l.holder.controller (outside_of m b l.memory l.bank)) l.call-items l.initial.answers l.answers l.i
    × (m.fixed l.memory ≡ m.fixed l.initial.memory)
