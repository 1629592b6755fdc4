-- Each turn does one step more.
use Rattle.std.proofs.Common.{◌≡◌, ◌+◌, sym, ap, ◌∙◌, rules}
use Rattle.controller.specs.Outside.{outside_of}
use Rattle.runner.specs.Plays.{one}
use Rattle.runner.proofs.Stepping.{full_room, one_is, stepping_more, stepping_full, stepping_done}
use Rattle.runner.proofs.desk.Desk.steps.Goals as goal

pub loop-steps-preserved : goal.loop-steps-preserved
loop-steps-preserved g c =
    let o = outside_of g.M.Memory g.B.PortBank c.loop-steps.memory c.loop-steps.bank in
    let counts : c.loop-steps.transfers + c.from-transfers.result ≡ c.loop-steps.transfers + one c.step_once.result = ap (λ n. c.loop-steps.transfers + n) (c.from-transfers.ensures ∙ one_is c.step_once.result) in
    (stepping_more c.loop-steps.invariant.0 c.loop-steps-test.true (full_room c.loop-steps.self o ∙ sym c.if-is_full.ensures) c.step_once.ensures.does counts, c.step_once.ensures.stays ∙ c.loop-steps.invariant.1)

pub returns-clause-does : goal.returns-clause-does
returns-clause-does g c = stepping_done c.loop-steps.invariant.0 (search rules)

pub returns-then-is_full-clause-does : goal.returns-then-is_full-clause-does
returns-then-is_full-clause-does g c =
    let o = outside_of g.M.Memory g.B.PortBank c.loop-steps.memory c.loop-steps.bank in
    stepping_full c.loop-steps.invariant.0 (full_room c.loop-steps.self o ∙ sym c.if-is_full.ensures)
