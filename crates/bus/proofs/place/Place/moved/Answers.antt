-- After a move the rest of the plan is the plan of the moved registers.
use Rattle.std.proofs.Common.{rules}
use Rattle.bus.proofs.Plans.{plan_rest}
use Rattle.bus.proofs.place.Place.moved.Goals as goal

pub returns-clause-rest : goal.returns-clause-rest
returns-clause-rest c = plan_rest c.args.course c.args.self _ (search rules) (search rules)
