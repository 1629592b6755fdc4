-- What patching lent bytes comes to.
use Rattle.std.proofs.Common.{◌≡◌, ℕ, true, List, length, sym, refl, ap, ◌∙◌}
use Rattle.std.proofs.lemmas.Bool.{cond-true}
use Rattle.memory.specs.declared.blocks.Block.{Block}
use Rattle.memory.specs.Blocks.{fits_at, kind_of_all, kind_from, byte_from, list_from, block_kind, block_byte, block_fixed}
use Rattle.memory.specs.Puts.{put_bytes}
use Rattle.memory.proofs.Lent.{came_back}
use Rattle.picture.specs.Maps.{plain_kind, patched}

-- bytes that fit, in a block before and after a write; x, what the lender finds
pub patch_bytes : {x : List ℕ} (bs : List ℕ) (a : ℕ) (eight : List ℕ) (before after : Block)
    → fits_at 0 (length bs) ≡ true → block_kind before ≡ kind_from (kind_of_all (fits_at 0 (length bs)) true) 0 (length bs) → block_byte before ≡ byte_from 0 bs → before.base ≡ 0
    → block_byte after ≡ put_bytes (block_kind before) (block_byte before) a eight → block_fixed after ≡ block_fixed before
    → x ≡ after.bytes.now → length x ≡ length bs → x ≡ patched bs a eight
patch_bytes bs a eight before after fits kinds shown base put fixed back sized =
    let plain : block_kind before ≡ plain_kind (length bs) = kinds ∙ ap (λ b. kind_from (kind_of_all b true) 0 (length bs)) fits in
    came_back 0 (length bs) before after (block_byte after) back sized base fixed refl
    ∙ ap (λ q. list_from q 0 (length bs)) (put ∙ ap (λ q. put_bytes q (block_byte before) a eight) plain ∙ ap (λ q. put_bytes (plain_kind (length bs)) q a eight) shown)
    ∙ sym (cond-true _ _ _ fits)
