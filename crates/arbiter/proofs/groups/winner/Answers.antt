-- The two calls of `choose` make the choice between the groups.
use Rattle.std.proofs.Common.{rules}
use Rattle.arbiter.proofs.Winners.{sides_won}
use Rattle.arbiter.proofs.groups.winner.Goals as goal

pub returns : goal.returns
returns c =
    sides_won c.args.first c.args.second c.choose-own.result c.choose-outer.result c.from.result c.choice_of.result
    (search rules) (search rules) (search rules) (search rules)
