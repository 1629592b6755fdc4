-- What a write of eight bytes, all or none, answers and leaves.
use Rattle.std.specs.Prelude.{ℕ, zero, suc, ◌+◌, ◌-◌, cond, ◌&&◌, List, Result, nat_le, nat_lt, slice_index}
use Rattle.memory.specs.declared.kinds.Kind.{Kind}
use Rattle.memory.specs.declared.kinds.Kind.TheVariants.{Absent, ReadOnly, Writable}
use Rattle.memory.specs.declared.kinds.MemoryFault.{MemoryFault}
use Rattle.memory.specs.Bytes.{is_absent, is_writable, write_of}

-- the kind of an address; past FFFFFFFFh all is absent
abbrev pub reached : (ℕ → Kind) → ℕ → Kind
reached k x = cond (nat_lt x 4294967296) (k x) Absent

-- absent if one of two is, else read-only if one of them is
abbrev pub lesser : Kind → Kind → Kind
lesser Absent k = Absent
lesser ReadOnly k = cond (is_absent k) Absent ReadOnly
lesser Writable k = k

-- of the n addresses from a on: absent if one is, else read-only if one is
unfoldable pub least_from : (ℕ → Kind) → ℕ → ℕ → Kind
least_from k a zero = Writable
least_from k a (suc n) = lesser (least_from k a n) (reached k (a + n))

-- writing eight bytes from a on gets 21 if one of the addresses is absent, else 22 if one is read-only
abbrev pub put_of : (ℕ → Kind) → ℕ → Result (Unit {0}) MemoryFault
put_of k a = write_of (least_from k a 8)

-- f, but the first n of the bytes bs from a on
abbrev pub spread : (ℕ → ℕ) → ℕ → ℕ → List ℕ → ℕ → ℕ
spread f a n bs x = cond (nat_le a x && nat_lt x (a + n)) (slice_index bs (x - a)) (f x)

-- the bytes after writing eight from a on: all of them, or none
abbrev pub put_bytes : (ℕ → Kind) → (ℕ → ℕ) → ℕ → List ℕ → ℕ → ℕ
put_bytes k f a bs = cond (is_writable (least_from k a 8)) (spread f a 8 bs) f
