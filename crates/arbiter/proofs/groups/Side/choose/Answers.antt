-- The bits of a mask that `Side::choose` leaves out change no choice.
use Rattle.std.proofs.Common.{rules}
use Rattle.arbiter.specs.Slots.{asks_in}
use Rattle.arbiter.proofs.Chosen.{chosen}
use Rattle.arbiter.proofs.Masks.{masked_none, masked_some}
use Rattle.arbiter.proofs.groups.Side.choose.Goals as goal

pub returns-then-asking-eq0 : goal.returns-then-asking-eq0
returns-then-asking-eq0 c =
    chosen (asks_in c.args.self.asking) c.args.self.rotating c.args.self.last _
    (masked_none c.args.self.asking c.args.self.rotating c.args.self.last (search rules))

pub returns : goal.returns
returns c =
    chosen (asks_in c.args.self.asking) c.args.self.rotating c.args.self.last _
    (masked_some c.args.self.asking c.args.self.rotating c.args.self.last _ c.first_from.result (search rules) c.first_from.ensures)
