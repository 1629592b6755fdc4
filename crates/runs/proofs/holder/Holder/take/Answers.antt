use Rattle.std.proofs.Common.{◌∙◌, ap₂}
use Rattle.std.proofs.lemmas.Result.{err_from_is_err_and}
use Rattle.runs.specs.Told as told
use Rattle.runs.proofs.Held.{taken, not_taken}
use Rattle.runs.proofs.holder.Holder.take.Goals as goal

pub invariant_of-self : goal.invariant_of-self
invariant_of-self c =
    let was = c.args.self.now in
    record { held = (not_taken was.grant was.controller c.take.new.self c.in_err-grant.field-0.0 c.take.ensures.state c.in_err-grant.ensures.answer was.held).0 }

pub returns-in_err-grant : goal.returns-in_err-grant
returns-in_err-grant c =
    let was = c.args.self.now in
    let n = not_taken was.grant was.controller c.take.new.self c.in_err-grant.field-0.0 c.take.ensures.state c.in_err-grant.ensures.answer was.held in
    let e = err_from_is_err_and c.from_residual.result c.from_residual.ensures.1 in
    λ o. record { state = c.take.ensures.state o; answer = rw (e.1, e.2) (ap₂ told.Take c.in_err-grant.ensures.answer n.1) }

pub invariant_of-self-2 : goal.invariant_of-self-2
invariant_of-self-2 c =
    let was = c.args.self.now.controller in
    let t = taken c.in_ok-grant.grant was c.take.new.self c.take.ensures.state c.in_ok-grant.ensures.answer c.in_ok-grant.ensures.grant in
    record { held = rw c.replace.ensures.after t.0 }

pub returns : goal.returns
returns c =
    let was = c.args.self.now.controller in
    let t = taken c.in_ok-grant.grant was c.take.new.self c.take.ensures.state c.in_ok-grant.ensures.answer c.in_ok-grant.ensures.grant in
    λ o. record { state = c.take.ensures.state o; answer = ap₂ told.Take c.in_ok-grant.ensures.answer (c.channel-channel.ensures ∙ t.1) }
