-- One unit between a device and memory: every check first, in number order, then the move.
use Rattle.std.specs.Prelude.{ℕ, ◌+◌, ◌*◌, ◌/◌, ◌%◌, Bool, cond, Some, None, Ok, Err, Option, Result, nat_lt}
use Rattle.bus.specs.declared.place.Addressing.{Addressing}
use Rattle.bus.specs.declared.place.Addressing.TheVariants.{Bytes, Words}
use Rattle.memory.specs.declared.kinds.Kind.{Kind}
use Rattle.memory.specs.declared.kinds.Kind.TheVariants.{Absent, ReadOnly, Writable}
use Rattle.memory.specs.Bytes.{is_absent, is_read_only, is_writable}
use Rattle.memory.specs.Stored.{stored}
use Rattle.ports.specs.Units.{look_of, taken, give_of, added, used}
use Rattle.registers.specs.declared.mode.Transfer.{Transfer}
use Rattle.registers.specs.declared.mode.Transfer.TheVariants.{Verify, Write, Read}
use Rattle.controller.specs.declared.fault.Fault.{Fault}
use Rattle.controller.specs.Faults.{fault_of, at_port}
use Rattle.controller.specs.Outside.{Outside}

-- the address above; above the top is 0
abbrev pub above : ℕ → ℕ
above a = (a + 1) % 4294967296

-- whether a kind is the one that is meant
abbrev pub is_of_kind : Kind → Kind → Bool
is_of_kind Absent = is_absent
is_of_kind ReadOnly = is_read_only
is_of_kind Writable = is_writable

-- the first byte of a unit that is of a kind: of a word, the one at the address or the one above
abbrev pub first_of_kind : (Kind → Bool) → (ℕ → Kind) → Addressing → ℕ → Option ℕ
first_of_kind is kinds Bytes a = cond (is (kinds a)) (Some a) None
first_of_kind is kinds Words a = cond (is (kinds a)) (Some a) (cond (is (kinds (above a))) (Some (above a)) None)

-- the fault that names a byte, if there is one
abbrev pub named : ℕ → ℕ → Option ℕ → Result (Unit {0}) Fault
named n c None = Ok tt
named n c (Some a) = Err (fault_of n c a)

-- the first of two checks that refuses
abbrev pub and_then : {X : Type 0} → Result (Unit {0}) Fault → Result X Fault → Result X Fault
and_then (Ok u) r = r
and_then (Err e) r = Err e

-- 21 where a byte of the unit is absent
abbrev pub presence : (ℕ → Kind) → ℕ → Addressing → ℕ → Result (Unit {0}) Fault
presence kinds c m a = named 21 c (first_of_kind is_absent kinds m a)

-- then 22 where one is read-only
abbrev pub writability : (ℕ → Kind) → ℕ → Addressing → ℕ → Result (Unit {0}) Fault
writability kinds c m a = and_then (presence kinds c m a) (named 22 c (first_of_kind is_read_only kinds m a))

-- 34 for a unit above 255 on a byte transfer
abbrev pub width : ℕ → Addressing → ℕ → ℕ → Result ℕ Fault
width c Bytes a u = cond (nat_lt u 256) (Ok u) (Err (fault_of 34 c a))
width c Words a u = Ok u

-- a unit that a device answers, if it fits
abbrev pub fitting : ℕ → Addressing → ℕ → Result ℕ Fault → Result ℕ Fault
fitting c m a (Ok u) = width c m a u
fitting c m a (Err e) = Err e

-- the unit that goes to memory: what waits first, once the memory takes it
abbrev pub offered : Outside → ℕ → Addressing → ℕ → Result ℕ Fault
offered o c m a = and_then (writability o.kinds c m a) (fitting c m a (at_port c a (look_of c o.waiting)))

-- a unit stored: a byte at its address, or a word's low byte there and its high byte above
abbrev pub stored_unit : Addressing → (ℕ → ℕ) → ℕ → ℕ → ℕ → ℕ
stored_unit Bytes f a u = stored f a u
stored_unit Words f a u = stored (stored f a (u % 256)) (above a) (u / 256)

-- a unit read: a byte, or the low byte at the address and the high byte above
abbrev pub read_unit : Addressing → (ℕ → ℕ) → ℕ → ℕ
read_unit Bytes f a = f a
read_unit Words f a = f a + f (above a) * 256

-- device to memory
abbrev pub take_in : Outside → ℕ → Addressing → ℕ → Result ℕ Fault → Outside × Result ℕ Fault
take_in o c m a (Ok u) = (record o { bytes = stored_unit m o.bytes a u; waiting = taken c o.waiting }, Ok u)
take_in o c m a (Err e) = (o, Err e)

-- a unit, once a check has passed
abbrev pub with_unit : ℕ → Result (Unit {0}) Fault → Result ℕ Fault
with_unit u (Ok x) = Ok u
with_unit u (Err e) = Err e

-- the unit that goes to the device: what memory shows, once the device has a place
abbrev pub wanted : Outside → ℕ → Addressing → ℕ → Result ℕ Fault
wanted o c m a = and_then (presence o.kinds c m a) (with_unit (read_unit m o.bytes a) (at_port c a (give_of c o.free)))

-- memory to device
abbrev pub give_out : Outside → ℕ → Result ℕ Fault → Outside × Result ℕ Fault
give_out o c (Ok u) = (record o { kept = added c u o.free o.kept; free = used c o.free }, Ok u)
give_out o c (Err e) = (o, Err e)

-- a transfer of one unit; verify touches neither memory nor bank
abbrev pub carried : Transfer → Outside → ℕ → Addressing → ℕ → Outside × Result ℕ Fault
carried Verify o c m a = (o, Ok 0)
carried Write o c m a = take_in o c m a (offered o c m a)
carried Read o c m a = give_out o c (wanted o c m a)
