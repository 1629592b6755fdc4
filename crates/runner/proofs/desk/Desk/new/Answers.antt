-- A new controller and an empty tape.
use Rattle.std.proofs.Common.{length}
use Rattle.runner.proofs.desk.Desk.new.Goals as goal

pub returns : goal.returns
returns c = λ o i. record { state = c.new.ensures o i; notices = c.empty.ensures.contents i; cells = length (c.empty.ensures.cells i) }
