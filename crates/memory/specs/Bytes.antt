-- What reading and writing a byte answers and leaves.
use Rattle.std.specs.Prelude.{ℕ, Bool, true, false, cond, Ok, Err, Result}
use Rattle.memory.specs.declared.kinds.Kind.{Kind}
use Rattle.memory.specs.declared.kinds.Kind.TheVariants.{Absent, ReadOnly, Writable}
use Rattle.memory.specs.declared.kinds.MemoryFault.{MemoryFault}
use Rattle.memory.specs.declared.kinds.MemoryFault.TheVariants as fault
use Rattle.memory.specs.Stored.{stored}

-- a read of an address of that kind, whose byte is b, answers b, or is refused if it is absent
abbrev pub read_of : Kind → ℕ → Result ℕ MemoryFault
read_of Absent b = Err fault.Absent
read_of ReadOnly b = Ok b
read_of Writable b = Ok b

-- a write to an address of that kind is accepted if it is writable, else refused, as absent or as read-only
abbrev pub write_of : Kind → Result (Unit {0}) MemoryFault
write_of Absent = Err fault.Absent
write_of ReadOnly = Err fault.ReadOnly
write_of Writable = Ok tt

-- nothing is there
abbrev pub is_absent : Kind → Bool
is_absent Absent = true
is_absent ReadOnly = false
is_absent Writable = false

-- it is there, but no write is accepted
abbrev pub is_read_only : Kind → Bool
is_read_only Absent = false
is_read_only ReadOnly = true
is_read_only Writable = false

-- a write is accepted
abbrev pub is_writable : Kind → Bool
is_writable Absent = false
is_writable ReadOnly = false
is_writable Writable = true

-- the bytes after a write of b at an address a of that kind: changed there if it is writable, else as they were
abbrev pub written : Kind → (ℕ → ℕ) → ℕ → ℕ → ℕ → ℕ
written k f a b = cond (is_writable k) (stored f a b) f
