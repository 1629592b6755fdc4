-- The names of modes, lists and ports, as they are printed.
use Rattle.std.specs.Prelude.{ℕ, List, ◌++◌, codes}
use Rattle.std.specs.Fmt.{decimal}
use Rattle.registers.specs.declared.mode.Service.{Service}
use Rattle.registers.specs.declared.mode.Service.TheVariants.{Demand, Single, Block, Cascade}
use Rattle.registers.specs.declared.list.Signal.{Signal}
use Rattle.registers.specs.declared.list.Signal.TheVariants.{Eop, Irq13}
use Rattle.registers.specs.declared.list.ListCommand.{ListCommand}
use Rattle.registers.specs.declared.list.ListCommand.TheVariants.{Nothing, Start, Stop, Unknown}
use Rattle.registers.specs.declared.ports.Dma.{Dma}
use Rattle.registers.specs.declared.ports.Dma.TheVariants.{One, Two}
use Rattle.registers.specs.declared.ports.Field.{Field}
use Rattle.registers.specs.declared.ports.Field.TheVariants.{Address, Count, LowPage, HighPage, Table}
use Rattle.registers.specs.declared.ports.Control.{Control}
use Rattle.registers.specs.declared.ports.Control.TheVariants.{Command, Request, Mask, Mode, ExtendedMode, ClearPointer, MasterClear, ClearMasks, AllMasks}
use Rattle.registers.specs.declared.ports.WritePort.{WritePort}
use Rattle.registers.specs.declared.ports.WritePort.TheVariants as write
use Rattle.registers.specs.declared.ports.ReadPort.{ReadPort}
use Rattle.registers.specs.declared.ports.ReadPort.TheVariants as read

-- a service in words
abbrev pub service_words : Service → List ℕ
service_words Demand = codes "demand"
service_words Single = codes "single"
service_words Block = codes "block"
service_words Cascade = codes "cascade"

-- a signal in words
abbrev pub signal_words : Signal → List ℕ
signal_words Eop = codes "EOP"
signal_words Irq13 = codes "IRQ13"

-- a list command in words
abbrev pub command_words : ListCommand → List ℕ
command_words Nothing = codes "nothing"
command_words Start = codes "Start"
command_words Stop = codes "Stop"
command_words Unknown = codes "no such command"

-- a group in words
abbrev pub dma_words : Dma → List ℕ
dma_words One = codes "DMA1"
dma_words Two = codes "DMA2"

-- a channel's register in words; of the table pointer, which byte
abbrev pub field_words : Field → List ℕ
field_words Address = codes "address"
field_words Count = codes "count"
field_words LowPage = codes "low page"
field_words HighPage = codes "high page"
field_words (Table n) = codes "table pointer, byte " ++ decimal n

-- a group's register in words
abbrev pub control_words : Control → List ℕ
control_words Command = codes "command"
control_words Request = codes "request"
control_words Mask = codes "mask"
control_words Mode = codes "mode"
control_words ExtendedMode = codes "extended mode"
control_words ClearPointer = codes "clear byte pointer"
control_words MasterClear = codes "master clear"
control_words ClearMasks = codes "clear masks"
control_words AllMasks = codes "all masks"

-- what a write reaches, in words: the channel or the group, and which of its registers
abbrev pub write_words : WritePort → List ℕ
write_words (write.Field f c) = codes "channel " ++ (decimal c ++ (codes " " ++ field_words f))
write_words (write.ListCommand c) = codes "channel " ++ (decimal c ++ codes " list command")
write_words (write.Control x d) = dma_words d ++ (codes " " ++ control_words x)

-- what a read reaches, likewise
abbrev pub read_words : ReadPort → List ℕ
read_words (read.Field f c) = codes "channel " ++ (decimal c ++ (codes " " ++ field_words f))
read_words (read.ListStatus c) = codes "channel " ++ (decimal c ++ codes " list status")
read_words (read.Status d) = dma_words d ++ codes " status"
read_words (read.AllMasks d) = dma_words d ++ codes " all masks"
read_words read.Irq13 = codes "IRQ13 bits"
