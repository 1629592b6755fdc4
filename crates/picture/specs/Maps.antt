-- The maps of the example.
use Rattle.std.specs.Prelude.{ℕ, true, false, cond, List, length, Ok, Err, Result}
use Rattle.memory.specs.declared.kinds.Kind.{Kind}
use Rattle.memory.specs.declared.blocks.Block.{Block}
use Rattle.memory.specs.declared.joins.Join.{Join}
use Rattle.memory.specs.declared.holes.Hole.{Hole}
use Rattle.memory.specs.Blocks.{fits_at, kind_of_all, kind_from, byte_from, list_from, block_kind, block_byte}
use Rattle.memory.specs.Faults.{memory_number}
use Rattle.memory.specs.Layers.{joined, holed}
use Rattle.memory.specs.Puts.{put_of, put_bytes}

-- 0 if accepted, else the refusal's number
abbrev pub number_of : {E : Type 0} → (E → ℕ) → Result (Unit {0}) E → ℕ
number_of number (Ok u) = 0
number_of number (Err e) = number e

-- n writable bytes from 0 on
abbrev pub plain_kind : ℕ → ℕ → Kind
plain_kind n = kind_from (kind_of_all true true) 0 n

-- patching gets 71 if the bytes do not fit a block, else what a write of eight bytes gets
abbrev pub patch_of : ℕ → ℕ → ℕ
patch_of n a = cond (fits_at 0 n) (number_of memory_number (put_of (plain_kind n) a)) 71

-- the bytes after patching
abbrev pub patched : List ℕ → ℕ → List ℕ → List ℕ
patched bs a eight = cond (fits_at 0 (length bs)) (list_from (put_bytes (plain_kind (length bs)) (byte_from 0 bs) a eight) 0 (length bs)) bs

-- a board: n writable bytes from 0 on, below 80000000h, with a hole from A0000h to BFFFFh; m read-only bytes from FFF00000h on
abbrev pub board_kinds : ℕ → ℕ → ℕ → Kind
board_kinds n m =
    holed 0xA0000 0xBFFFF (joined 0x80000000 (kind_from (kind_of_all (fits_at 0 n) true) 0 n) (kind_from (kind_of_all (fits_at 0xFFF00000 m) false) 0xFFF00000 m))

-- the bytes of such a board
abbrev pub board_bytes : List ℕ → List ℕ → ℕ → ℕ
board_bytes ram rom = joined 0x80000000 (byte_from 0 ram) (byte_from 0xFFF00000 rom)

-- the kinds of a hole over a join of two blocks
abbrev pub board_kind : Hole (Join Block Block) → ℕ → Kind
board_kind h = holed h.bottom h.top (joined h.inner.boundary (block_kind h.inner.lower) (block_kind h.inner.upper))

-- and its bytes
abbrev pub board_byte : Hole (Join Block Block) → ℕ → ℕ
board_byte h = joined h.inner.boundary (block_byte h.inner.lower) (block_byte h.inner.upper)
