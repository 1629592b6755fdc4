use Rattle.std.proofs.Common.{◌≡◌, Option, sym, subst, ap₂}
use Rattle.controller.specs.declared.grant.Grant.{Grant}
use Rattle.controller.specs.Grants.{out_to}
use Rattle.runs.specs.Calls.{Holding}
use Rattle.runs.specs.Told as told
use Rattle.runs.proofs.Held.{held_channel}
use Rattle.runs.proofs.holder.Holder.cycle.Goals as goal

pub returns-in-Some-clause-does : goal.returns-in-Some-clause-does
returns-in-Some-clause-does g c = λ o.
    let was = c.args.self.now in
    let P : Option Grant → Type 0 = λ x. Holding x was.controller.bus in
    let e : out_to was.controller.bus ≡ c.in-Some.grant.channel = sym (held_channel c.in-Some.grant was.controller.bus (subst P c.in-Some.is was.held)) in
    rw e (record { state = c.cycle.ensures.state o; answer = ap₂ told.Cycle (c.cycle.ensures.answer o) (c.cycle.ensures.value o) })
