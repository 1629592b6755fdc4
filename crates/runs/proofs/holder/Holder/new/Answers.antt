use Rattle.std.proofs.Common.{None, ap}
use Rattle.controller.specs.declared.controller.Bus.TheVariants.{Home}
use Rattle.controller.specs.Steps.{State}
use Rattle.runs.proofs.Held.{nowhere, still_held}
use Rattle.runs.proofs.holder.Holder.new.Goals as goal

pub invariant_of-result : goal.invariant_of-result
invariant_of-result c = record { held = still_held None Home c.new.result.bus (ap (λ (x : State). x.bus) (c.new.ensures nowhere)) tt }
