-- The bytes fit, so the block has them, and what it shows after the write is what its lender finds.
use Rattle.std.proofs.Common.{rules}
use Rattle.picture.proofs.Patching.{patch_bytes}
use Rattle.picture.proofs.maps.patch.Goals as goal

pub returns-clause-after : goal.returns-clause-after
returns-clause-after c =
    let made = c.over-block.ensures in
    let did = c.put.ensures in
    patch_bytes c.args.bytes.now c.args.address c.args.eight c.over-block.result c.put.new.memory (search rules) made.kinds made.bytes made.lender.2 (search (rules, did.bytes)) did.stays (search rules) (search rules)
