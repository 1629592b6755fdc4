-- A step and its notice.
use Rattle.std.proofs.Common.{◌∙◌}
use Rattle.controller.specs.Steps.{state_of}
use Rattle.controller.specs.Outside.{outside_of}
use Rattle.runner.specs.Plays.{run_at}
use Rattle.runner.proofs.Stepping.{once}
use Rattle.runner.proofs.desk.Desk.step_once.Goals as goal

pub returns-clause-does : goal.returns-clause-does
returns-clause-does g c =
    let before = outside_of g.M.Memory g.B.PortBank c.args.memory.now c.args.bank.now in
    let after = outside_of g.M.Memory g.B.PortBank c.step-outcome.new.memory c.step-outcome.new.bank in
    let noted = c.note.ensures in
    let step = once (run_at c.args.self.now before) c.step-outcome.ensures.does in
    record {
      state = (λ i. record { state = state_of (noted.controller i) after; notices = noted.notices i; cells = noted.cells i }) ∙ step.state;
      answer = c.is_transfer.ensures ∙ step.answer;
    }
