-- The numbers and words of a patch's refusals.
use Rattle.std.specs.Prelude.{ℕ, List}
use Rattle.memory.specs.Blocks.{block_number, block_words}
use Rattle.memory.specs.Faults.{memory_number, memory_words}
use Rattle.picture.specs.declared.faults.PatchFault.{PatchFault}
use Rattle.picture.specs.declared.faults.PatchFault.TheVariants.{Block, Memory}

-- the number of the layer that refuses: 71 of the block, 21 or 22 of the memory
abbrev pub patch_number : PatchFault → ℕ
patch_number (Block e) = block_number e
patch_number (Memory e) = memory_number e

-- the words of the layer that refuses
abbrev pub patch_words : PatchFault → List ℕ
patch_words (Block e) = block_words e
patch_words (Memory e) = memory_words e
