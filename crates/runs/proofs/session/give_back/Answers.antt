use Rattle.std.proofs.Common.{Option, subst}
use Rattle.controller.specs.declared.grant.Grant.{Grant}
use Rattle.runs.specs.Calls.{Holding}
use Rattle.runs.proofs.Held.{nowhere, accepted}
use Rattle.runs.proofs.session.give_back.Goals as goal

pub unwrap-requires : goal.unwrap-requires
unwrap-requires c =
    let P : Option Grant → Type 0 = λ x. Holding x c.args.controller.now.bus in
    accepted c.in_ok-grant.grant c.args.controller.now.bus c.release.result (subst P c.in_ok-grant.ensures.ok_part c.requires) (c.release.ensures.answer nowhere)
