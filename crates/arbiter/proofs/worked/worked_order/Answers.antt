-- Each turn writes down one winner more.
use Rattle.std.proofs.Common.{ap, ◌∙◌, arith, rules}
use Rattle.arbiter.specs.Groups.{group_of}
use Rattle.arbiter.specs.Order.{winners, everybody}
use Rattle.arbiter.proofs.Orders.{winners-more, winners_all, worked_order}
use Rattle.arbiter.proofs.worked.worked_order.Goals as goal

pub loop-channel-preserved : goal.loop-channel-preserved
loop-channel-preserved c = (
  search rules,
  winners-more 17 c.loop-channel.channel-index c.loop-channel.channel-items (winners 17 everybody everybody) (group_of c.loop-channel.first) (group_of c.loop-channel.second) _ _ c.serve.result
      c.loop-channel.invariant.0 (omega arith) c.loop-channel.invariant.1 c.serve.ensures.channel (ap group_of c.serve.ensures.first) (ap group_of c.serve.ensures.second),
)

pub returns : goal.returns
returns c =
    record {
      theorem = worked_order;
      played = winners_all 17 c.loop-channel.channel-index c.loop-channel.channel-items (winners 17 everybody everybody) (group_of c.loop-channel.first) (group_of c.loop-channel.second)
          c.loop-channel.invariant.0 (omega arith) c.loop-channel.invariant.1 ∙ worked_order;
    }
