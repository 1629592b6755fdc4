-- The winners so far and those still to come are the winners of all seventeen choices.
use Rattle.std.proofs.Common.{◌≡◌, ◌-◌, ◌++◌, length, take}
use Rattle.arbiter.specs.Groups.{group_of}
use Rattle.arbiter.specs.Order.{winners, everybody}
use Rattle.arbiter.proofs.worked.worked_order.Given as goal

abbrev pub invariant-loop-channel : goal.invariant-loop-channel
invariant-loop-channel l =
    (length l.channel-items ≡ 17)
    × (take l.channel-index l.channel-items ++ winners (17 - l.channel-index) (group_of l.first) (group_of l.second) ≡ winners 17 everybody everybody)
