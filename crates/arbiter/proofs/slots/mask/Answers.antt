-- Shifted flags make the mask, and each is read back at its bit.
use Rattle.std.proofs.Common.{rules}
use Rattle.arbiter.proofs.Masks.{or_bits, bits_of_mask}
use Rattle.arbiter.proofs.slots.mask.Goals as goal

pub returns : goal.returns
returns c = search (rules, or_bits, bits_of_mask)
