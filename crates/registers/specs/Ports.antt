-- The port map: which register a port number reaches, in each direction. All sixteen bits count.
use Rattle.std.specs.Prelude.{ℕ, ◌-◌, ◌/◌, ◌%◌, cond, Some, None, Option, ◌==◌, nat_lt}
use Rattle.registers.specs.declared.ports.Dma.{Dma}
use Rattle.registers.specs.declared.ports.Dma.TheVariants.{One, Two}
use Rattle.registers.specs.declared.ports.Field.{Field}
use Rattle.registers.specs.declared.ports.Field.TheVariants.{Address, Count, LowPage, HighPage, Table}
use Rattle.registers.specs.declared.ports.Control.{Control}
use Rattle.registers.specs.declared.ports.Control.TheVariants.{Command, Request, Mask, Mode, ExtendedMode, ClearPointer, MasterClear, ClearMasks, AllMasks}
use Rattle.registers.specs.declared.ports.WritePort.{WritePort}
use Rattle.registers.specs.declared.ports.WritePort.TheVariants as write
use Rattle.registers.specs.declared.ports.ReadPort.{ReadPort}
use Rattle.registers.specs.declared.ports.ReadPort.TheVariants as read

-- addresses and counts
abbrev pub span_port : ℕ → Option (Field × ℕ)
span_port p =
    cond (p == 0x00) (Some (Address, 0)) (
    cond (p == 0x02) (Some (Address, 1)) (
    cond (p == 0x04) (Some (Address, 2)) (
    cond (p == 0x06) (Some (Address, 3)) (
    cond (p == 0xC4) (Some (Address, 5)) (
    cond (p == 0xC8) (Some (Address, 6)) (
    cond (p == 0xCC) (Some (Address, 7)) (
    cond (p == 0x01) (Some (Count, 0)) (
    cond (p == 0x03) (Some (Count, 1)) (
    cond (p == 0x05) (Some (Count, 2)) (
    cond (p == 0x07) (Some (Count, 3)) (
    cond (p == 0xC6) (Some (Count, 5)) (
    cond (p == 0xCA) (Some (Count, 6)) (
    cond (p == 0xCE) (Some (Count, 7)) (
    None))))))))))))))

-- low pages, and high pages 400h above them
abbrev pub page_port : ℕ → Option (Field × ℕ)
page_port p =
    cond (p == 0x87) (Some (LowPage, 0)) (
    cond (p == 0x83) (Some (LowPage, 1)) (
    cond (p == 0x81) (Some (LowPage, 2)) (
    cond (p == 0x82) (Some (LowPage, 3)) (
    cond (p == 0x8B) (Some (LowPage, 5)) (
    cond (p == 0x89) (Some (LowPage, 6)) (
    cond (p == 0x8A) (Some (LowPage, 7)) (
    cond (p == 0x487) (Some (HighPage, 0)) (
    cond (p == 0x483) (Some (HighPage, 1)) (
    cond (p == 0x481) (Some (HighPage, 2)) (
    cond (p == 0x482) (Some (HighPage, 3)) (
    cond (p == 0x48B) (Some (HighPage, 5)) (
    cond (p == 0x489) (Some (HighPage, 6)) (
    cond (p == 0x48A) (Some (HighPage, 7)) (
    None))))))))))))))

-- the table pointers: four ports for each channel c but 4, from 420h + 4c on, lowest byte first
abbrev pub table_port : ℕ → Option (Field × ℕ)
table_port p = cond (nat_lt p 0x420) None (cond (nat_lt p 0x440)
    (cond ((p - 0x420) / 4 == 4) None (Some (Table ((p - 0x420) % 4), (p - 0x420) / 4))) None)

-- the first that is found
abbrev pub or_else : {X : Type 0} → Option X → Option X → Option X
or_else (Some x) o = Some x
or_else None o = o

-- a channel's register that goes both ways
abbrev pub field_port : ℕ → Option (Field × ℕ)
field_port p = or_else (span_port p) (or_else (page_port p) (table_port p))

-- a group's registers that are written
abbrev pub control_port : ℕ → Option (Control × Dma)
control_port p =
    cond (p == 0x08) (Some (Command, One)) (
    cond (p == 0x09) (Some (Request, One)) (
    cond (p == 0x0A) (Some (Mask, One)) (
    cond (p == 0x0B) (Some (Mode, One)) (
    cond (p == 0x40B) (Some (ExtendedMode, One)) (
    cond (p == 0x0C) (Some (ClearPointer, One)) (
    cond (p == 0x0D) (Some (MasterClear, One)) (
    cond (p == 0x0E) (Some (ClearMasks, One)) (
    cond (p == 0x0F) (Some (AllMasks, One)) (
    cond (p == 0xD0) (Some (Command, Two)) (
    cond (p == 0xD2) (Some (Request, Two)) (
    cond (p == 0xD4) (Some (Mask, Two)) (
    cond (p == 0xD6) (Some (Mode, Two)) (
    cond (p == 0x4D6) (Some (ExtendedMode, Two)) (
    cond (p == 0xD8) (Some (ClearPointer, Two)) (
    cond (p == 0xDA) (Some (MasterClear, Two)) (
    cond (p == 0xDC) (Some (ClearMasks, Two)) (
    cond (p == 0xDE) (Some (AllMasks, Two)) (
    None))))))))))))))))))

-- the channel of a register of which each channel but 4 has one, from a first port on
abbrev pub list_channel : ℕ → ℕ → Option ℕ
list_channel p first = cond (nat_lt p first) None (cond (nat_lt (p - first) 8) (cond (p - first == 4) None (Some (p - first))) None)

-- a field as what a write reaches
abbrev pub written_field : Option (Field × ℕ) → Option WritePort
written_field None = None
written_field (Some f) = Some (write.Field f.0 f.1)

-- a control as what a write reaches
abbrev pub written_control : Option (Control × Dma) → Option WritePort
written_control None = None
written_control (Some x) = Some (write.Control x.0 x.1)

-- a channel's list command as what a write reaches
abbrev pub written_list : Option ℕ → Option WritePort
written_list None = None
written_list (Some c) = Some (write.ListCommand c)

-- what a write reaches: a field, a control, or from 410h on a list command
abbrev pub write_port : ℕ → Option WritePort
write_port p = or_else (written_field (field_port p)) (or_else (written_control (control_port p)) (written_list (list_channel p 0x410)))

-- a field as what a read reaches
abbrev pub read_field : Option (Field × ℕ) → Option ReadPort
read_field None = None
read_field (Some f) = Some (read.Field f.0 f.1)

-- a channel's list status as what a read reaches
abbrev pub read_list : Option ℕ → Option ReadPort
read_list None = None
read_list (Some c) = Some (read.ListStatus c)

-- what only a read reaches: the status registers, all masks, the IRQ13 bits
abbrev pub shown_port : ℕ → Option ReadPort
shown_port p = cond (p == 0x08) (Some (read.Status One)) (cond (p == 0xD0) (Some (read.Status Two))
    (cond (p == 0x0F) (Some (read.AllMasks One)) (cond (p == 0xDE) (Some (read.AllMasks Two))
    (cond (p == 0x40A) (Some read.Irq13) None))))

-- what a read reaches: a field, one of those, or from 418h on a list status
abbrev pub read_port : ℕ → Option ReadPort
read_port p = or_else (read_field (field_port p)) (or_else (shown_port p) (read_list (list_channel p 0x418)))
