-- What a step cannot do: the numbers, layers and words of its faults.
use Rattle.std.specs.Prelude.{ℕ, cond, List, codes, Ok, Err, Result, ◌==◌}
use Rattle.memory.specs.declared.kinds.MemoryFault.TheVariants as memory
use Rattle.memory.specs.Faults.{memory_number, memory_words}
use Rattle.ports.specs.declared.faults.PortFault.{PortFault}
use Rattle.ports.specs.declared.faults.PortFault.TheVariants as port
use Rattle.ports.specs.Faults.{port_number, port_words}
use Rattle.controller.specs.declared.fault.TableFault.{TableFault}
use Rattle.controller.specs.declared.fault.TableFault.TheVariants.{EntryAbsent, TooManyEntries}
use Rattle.controller.specs.declared.fault.Cause.{Cause}
use Rattle.controller.specs.declared.fault.Cause.TheVariants.{Memory, Port, TooWide, Table}
use Rattle.controller.specs.declared.fault.Layer.{Layer}
use Rattle.controller.specs.declared.fault.Layer.TheVariants as layer
use Rattle.controller.specs.declared.fault.Fault.{Fault}

-- 41: a byte of the entry is absent; 42: the list has more entries than it may
abbrev pub table_number : TableFault → ℕ
table_number EntryAbsent = 41
table_number TooManyEntries = 42

-- and its words
abbrev pub table_words : TableFault → List ℕ
table_words EntryAbsent = codes "no memory at a byte of the list entry"
table_words TooManyEntries = codes "the list has more than 4,096 entries"

-- each cause has its number: that of the refusal, and 34 for a unit that is too wide
abbrev pub cause_number : Cause → ℕ
cause_number (Memory e) = memory_number e
cause_number (Port e) = port_number e
cause_number TooWide = 34
cause_number (Table e) = table_number e

-- and its words: those of the refusal, and its own for a unit that is too wide
abbrev pub cause_words : Cause → List ℕ
cause_words (Memory e) = memory_words e
cause_words (Port e) = port_words e
cause_words TooWide = codes "the device's unit is above 255, in a transfer of bytes"
cause_words (Table e) = table_words e

-- the cause with a number
abbrev pub cause_of : ℕ → Cause
cause_of n = cond (n == 21) (Memory memory.Absent) (cond (n == 22) (Memory memory.ReadOnly)
    (cond (n == 31) (Port port.NothingWaits) (cond (n == 32) (Port port.NoPlace) (cond (n == 33) (Port port.NoSuchChannel)
    (cond (n == 34) TooWide (cond (n == 41) (Table EntryAbsent) (Table TooManyEntries)))))))

-- and its layer
abbrev pub layer_of : Cause → Layer
layer_of (Memory e) = layer.Memory
layer_of (Port e) = layer.Port
layer_of TooWide = layer.Port
layer_of (Table e) = layer.Table

-- the fault with that number, of a channel, at an address
abbrev pub fault_of : ℕ → ℕ → ℕ → Fault
fault_of n c a = record { cause = cause_of n; channel = c; address = a }

-- a bank's answer, carried up with its channel and address
abbrev pub at_port : {X : Type 0} → ℕ → ℕ → Result X PortFault → Result X Fault
at_port c a (Ok x) = Ok x
at_port c a (Err e) = Err (record { cause = Port e; channel = c; address = a })
