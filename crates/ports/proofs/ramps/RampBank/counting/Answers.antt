-- Each channel's ramp starts at its number.
use Rattle.std.proofs.Common.{ap, ◌∙◌, rules}
use Rattle.ports.specs.Ramps.{ramps_from}
use Rattle.ports.proofs.Mapped.{mapped}
use Rattle.ports.proofs.Ramped.{ramp_with, counts}
use Rattle.ports.proofs.ramps.RampBank.counting.Goals as goal

pub returns : goal.returns
returns c =
    let made = ap ramps_from (mapped _ (λ v. ramp_with v c.args.count) _ (λ x y q call. search rules) _ _ 0 c.map.ensures.items) in
    c.new.ensures ∙ made ∙ search (rules, counts)
