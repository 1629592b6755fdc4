-- The block has the host's bytes, and what it shows after the run is what the host finds.
use Rattle.std.proofs.Common.{true, [], length, refl, ap, ◌∙◌, rules}
use Rattle.memory.specs.Blocks.{kind_of_all, kind_from, block_kind, block_byte}
use Rattle.memory.proofs.Lent.{came_back}
use Rattle.ports.specs.Ramps.{ramp_waiting}
use Rattle.controller.specs.Outside.{outside}
use Rattle.runner.proofs.Hosting.{host_shows}
use Rattle.runner.proofs.host.sillmint_run.Goals as goal

pub returns-clause-memory : goal.returns-clause-memory
returns-clause-memory c =
    let bytes = c.args.memory.now in
    let before = c.over-block.result in
    let after = c.run.new.memory in
    let fits = c.in_default.ensures in
    let made = c.over-block.ensures in
    let did = c.run.ensures in
    host_shows c.args.script.now bytes (length c.args.output.now)
    (outside (block_kind before) (block_byte before) (ramp_waiting c.counting-bank.result) (λ c. []) (λ c. 0))
    (outside (block_kind after) (block_byte after) (ramp_waiting c.run.new.bank) (λ c. []) (λ c. 0))
    fits
    (λ i. outside ((made.kinds ∙ ap (λ b. kind_from (kind_of_all b true) 0 (length bytes)) fits) i) (made.bytes i) (c.counting-bank.ensures i) (λ c. []) (λ c. 0))
    did.world
    (came_back 0 (length bytes) before after (block_byte after) (search rules) (search rules) made.lender.2 did.stays refl)
