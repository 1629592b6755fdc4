-- Bus master grants: the bus taken, used for single bytes, and released.
use Rattle.std.specs.Prelude.{ℕ, Bool, false, cond, List, codes, Ok, Err, Result, ◌==◌}
use Rattle.memory.specs.declared.kinds.Kind.{Kind}
use Rattle.memory.specs.declared.kinds.Kind.TheVariants.{Absent, ReadOnly, Writable}
use Rattle.memory.specs.Bytes.{written}
use Rattle.memory.specs.Faults.{memory_number, memory_words}
use Rattle.registers.specs.File.{over, with_service}
use Rattle.controller.specs.declared.controller.Bus.{Bus}
use Rattle.controller.specs.declared.controller.Bus.TheVariants.{Home, Out, Taken}
use Rattle.controller.specs.declared.grant.Grant.{Grant}
use Rattle.controller.specs.declared.grant.Cycle.{Cycle}
use Rattle.controller.specs.declared.grant.Cycle.TheVariants.{Read, Write}
use Rattle.controller.specs.declared.grant.BusRefusal.{BusRefusal}
use Rattle.controller.specs.declared.grant.BusRefusal.TheVariants as bus
use Rattle.controller.specs.Outside.{Outside}
use Rattle.controller.specs.Steps.{State, with_bus, with_registers, with_world}

-- each refusal of a bus master has its number: that of the memory where it is the memory that refuses
abbrev pub bus_number : BusRefusal → ℕ
bus_number bus.NotOffered = 11
bus_number bus.NotGranted = 12
bus_number (bus.Memory e) = memory_number e

-- and its words: those of the memory where it is the memory that refuses
abbrev pub bus_words : BusRefusal → List ℕ
bus_words bus.NotOffered = codes "the bus is not out, or is taken already"
bus_words bus.NotGranted = codes "the bus is not granted"
bus_words (bus.Memory e) = memory_words e

-- the number that an answer shows: 0 where the call is accepted
abbrev pub shown_bus : {X : Type 0} → Result X BusRefusal → ℕ
shown_bus (Ok x) = 0
shown_bus (Err e) = bus_number e

-- the byte that a cycle answers: 0 where it is refused
abbrev pub byte_in : Result ℕ BusRefusal → ℕ
byte_in (Ok b) = b
byte_in (Err e) = 0

-- the number that a release shows: 12 where the grant is handed back
abbrev pub shown_release : {X : Type 0} → Result X Grant → ℕ
shown_release (Ok x) = 0
shown_release (Err g) = bus_number bus.NotGranted

-- TAKE: 11 where the bus is not out, or taken already; else it is taken
abbrev pub take_number : Bus → ℕ
take_number Home = 11
take_number (Out c) = 0
take_number (Taken c) = 11

-- where the bus is after it
abbrev pub took_bus : Bus → Bus
took_bus Home = Home
took_bus (Out c) = Taken c
took_bus (Taken c) = Taken c

-- the channel that the bus is out to, 0 where it is not out
abbrev pub out_to : Bus → ℕ
out_to Home = 0
out_to (Out c) = c
out_to (Taken c) = c

-- a grant holds for the channel to which the bus is out and taken
abbrev pub holds : Bus → ℕ → Bool
holds Home g = false
holds (Out c) g = false
holds (Taken c) g = c == g

-- the refusal of a byte's kind: a read gets 21, a write 21 or 22
abbrev pub kind_number : Cycle → Kind → ℕ
kind_number (Read a) Absent = 21
kind_number (Read a) ReadOnly = 0
kind_number (Read a) Writable = 0
kind_number (Write a b) Absent = 21
kind_number (Write a b) ReadOnly = 22
kind_number (Write a b) Writable = 0

-- the address of a cycle
abbrev pub cycle_address : Cycle → ℕ
cycle_address (Read a) = a
cycle_address (Write a b) = a

-- CYCLE under a grant: 12 where it does not hold, then 21, 22
abbrev pub cycle_number : State → ℕ → Cycle → ℕ
cycle_number s g x = cond (holds s.bus g) (kind_number x (s.world.kinds (cycle_address x))) 12

-- the byte that a cycle moves: the one read, or the one written
abbrev pub cycle_byte : Outside → Cycle → ℕ
cycle_byte o (Read a) = o.bytes a
cycle_byte o (Write a b) = b

abbrev pub cycle_value : State → ℕ → Cycle → ℕ
cycle_value s g x = cond (cycle_number s g x == 0) (cycle_byte s.world x) 0

-- a write cycle changes its one byte
abbrev pub cycled : Cycle → Outside → Outside
cycled (Read a) o = o
cycled (Write a b) o = record o { bytes = written (o.kinds a) o.bytes a b }

-- the state after a cycle under a grant
abbrev pub after_cycle : ℕ → Cycle → State → State
after_cycle g x s = cond (holds s.bus g) (with_world (cycled x s.world) s) s

-- RELEASE: 12 where the grant does not hold; else the bus is back and the service over
abbrev pub release_number : State → ℕ → ℕ
release_number s g = cond (holds s.bus g) 0 12

-- the state after a release
abbrev pub released : ℕ → State → State
released g s = cond (holds s.bus g) (with_bus Home (with_registers (with_service (over g s.registers.service) s.registers) s)) s
