-- The register file: what each access answers, and what it leaves.
use Rattle.std.specs.Prelude.{ℕ, ◌+◌, ◌*◌, ◌/◌, ◌%◌, Bool, true, false, cond, not, ◌&&◌, ◌||◌, Some, None, Option, ◌==◌, nat_le, nat_lt}
use Rattle.bus.specs.declared.place.Addressing.TheVariants.{Bytes, Words}
use Rattle.registers.specs.declared.channel.Channel.{Channel}
use Rattle.registers.specs.declared.group.Group.{Group}
use Rattle.registers.specs.declared.file.Registers.{Registers}
use Rattle.registers.specs.declared.ports.Dma.{Dma}
use Rattle.registers.specs.declared.ports.Dma.TheVariants.{One, Two}
use Rattle.registers.specs.declared.ports.Field.{Field}
use Rattle.registers.specs.declared.ports.Field.TheVariants.{Address, Count, LowPage, HighPage, Table}
use Rattle.registers.specs.declared.ports.Control.{Control}
use Rattle.registers.specs.declared.ports.Control.TheVariants.{Command, Request, Mask, Mode, ExtendedMode, ClearPointer, MasterClear, ClearMasks, AllMasks}
use Rattle.registers.specs.declared.ports.WritePort.{WritePort}
use Rattle.registers.specs.declared.ports.WritePort.TheVariants as write
use Rattle.registers.specs.declared.ports.ReadPort.{ReadPort}
use Rattle.registers.specs.declared.ports.ReadPort.TheVariants as read
use Rattle.registers.specs.Modes.{flag, mode_of}
use Rattle.registers.specs.Channels.{byte_of, table_byte, with_address, with_count, with_low, with_high, with_table_byte, with_mode, with_extended_mode, with_mask, with_request, with_list_command, list_refusal, list_begins, list_status}
use Rattle.registers.specs.Groups.{slot_of, with_slot, fresh_group, with_command, with_pointer, flipped, with_masks, with_lines, without_terminals, cleared_group, masks, irq13s, status_of}
use Rattle.registers.specs.Ports.{write_port, read_port}

-- a new register file: 0 to 3 move bytes, 5 to 7 shifted words; nobody is served
abbrev pub fresh_file : Registers
fresh_file = record { first = fresh_group Bytes Bytes; second = fresh_group Bytes Words; service = None }

-- a channel's group: One has channels 0 to 3, Two has 4 to 7
abbrev pub dma_of : ℕ → Dma
dma_of c = cond (nat_lt c 4) One Two

-- a group's registers
abbrev pub group_at : Registers → Dma → Group
group_at k One = k.first
group_at k Two = k.second

-- channels 0 to 3 are of the first group, 4 to 7 of the second
abbrev pub group_of : Registers → ℕ → Group
group_of k c = cond (nat_lt c 4) k.first k.second

-- a channel's registers
abbrev pub channel_of : Registers → ℕ → Channel
channel_of k c = slot_of (group_of k c) c

-- a change of the first group
abbrev pub at_first : (Group → Group) → Registers → Registers
at_first f k = record k { first = f k.first }

-- a change of the second group
abbrev pub at_second : (Group → Group) → Registers → Registers
at_second f k = record k { second = f k.second }

-- a change of the group that a channel is of
abbrev pub at_group_of : ℕ → (Group → Group) → Registers → Registers
at_group_of c f k = cond (nat_lt c 4) (at_first f k) (at_second f k)

-- a change of the group of that name
abbrev pub at_dma : Dma → (Group → Group) → Registers → Registers
at_dma One f k = at_first f k
at_dma Two f k = at_second f k

-- other registers for a channel
abbrev pub with_channel : ℕ → Channel → Registers → Registers
with_channel c ch k = at_group_of c (with_slot c ch) k

-- the service that goes on, or none
abbrev pub with_service : Option ℕ → Registers → Registers
with_service s k = record k { service = s }

-- a channel's service is over
abbrev pub over : ℕ → Option ℕ → Option ℕ
over c None = None
over c (Some d) = cond (c == d) None (Some d)

-- a channel begins a job with these registers, which ends its service
abbrev pub programmed : ℕ → Channel → Registers → Registers
programmed c ch k = with_service (over c k.service) (with_channel c ch k)

-- the channel that the two low bits pick in a group
abbrev pub picked : Dma → ℕ → ℕ
picked One v = v % 4
picked Two v = 4 + v % 4

-- the list of channel c is active
abbrev pub busy : Registers → ℕ → Bool
busy k c = (channel_of k c).list.active

-- refusals of a mode: 3 for transfer type 3 outside cascade, and for a mode other than cascade on channel 4; 4 while the list is active
abbrev pub mode_refusal : Registers → ℕ → ℕ → ℕ
mode_refusal k c v = cond (not (v / 64 == 3) && (v / 4 % 4 == 3 || c == 4)) 3 (cond (busy k c) 4 0)

-- refusals of an extended mode: 2 for channel 4; 3 for addressing 2 or 3; 4 while the list is active
abbrev pub extended_refusal : Registers → ℕ → ℕ → ℕ
extended_refusal k c v = cond (c == 4) 2 (cond (nat_le 2 (v / 4 % 4)) 3 (cond (busy k c) 4 0))

-- refusals of a group's register: a request gets 2 for channel 4
abbrev pub control_refusal : Registers → Control → Dma → ℕ → ℕ
control_refusal k Command d v = 0
control_refusal k Request d v = cond (picked d v == 4) 2 0
control_refusal k Mask d v = 0
control_refusal k Mode d v = mode_refusal k (picked d v) v
control_refusal k ExtendedMode d v = extended_refusal k (picked d v) v
control_refusal k ClearPointer d v = 0
control_refusal k MasterClear d v = 0
control_refusal k ClearMasks d v = 0
control_refusal k AllMasks d v = 0

-- refusals of a write: a field gets 4 while its channel's list is active
abbrev pub refusal_at : Registers → WritePort → ℕ → ℕ
refusal_at k (write.Field f c) v = cond (busy k c) 4 0
refusal_at k (write.ListCommand c) v = list_refusal v (channel_of k c)
refusal_at k (write.Control x d) v = control_refusal k x d v

-- the byte pointer of a channel's group stands at the high byte
abbrev pub high_byte : Registers → ℕ → Bool
high_byte k c = (group_of k c).pointer.high

-- an accepted write to a field: address, count and pages begin a job; address and count flip the byte pointer
abbrev pub field_written : Field → ℕ → ℕ → Registers → Registers
field_written Address c v k = at_group_of c flipped (programmed c (with_address (high_byte k c) v (channel_of k c)) k)
field_written Count c v k = at_group_of c flipped (programmed c (with_count (high_byte k c) v (channel_of k c)) k)
field_written LowPage c v k = programmed c (with_low v (channel_of k c)) k
field_written HighPage c v k = programmed c (with_high v (channel_of k c)) k
field_written (Table n) c v k = with_channel c (with_table_byte n v (channel_of k c)) k

-- a list command begins a job if it is Start, or a Stop that ends the list
abbrev pub list_written : ℕ → ℕ → Registers → Registers
list_written c v k = cond (list_begins v (channel_of k c))
    (programmed c (with_list_command v (channel_of k c)) k)
    (with_channel c (with_list_command v (channel_of k c)) k)

-- a service of the group's channels is over
abbrev pub over_in : Dma → Option ℕ → Option ℕ
over_in d None = None
over_in One (Some c) = cond (nat_lt c 4) None (Some c)
over_in Two (Some c) = cond (nat_lt c 4) (Some c) None

-- an accepted write to a group's register: mode, extended mode and master clear begin jobs
abbrev pub control_written : Control → Dma → ℕ → Registers → Registers
control_written Command d v k = at_dma d (with_command v) k
control_written Request d v k = with_channel (picked d v) (with_request (flag 4 v) (channel_of k (picked d v))) k
control_written Mask d v k = with_channel (picked d v) (with_mask (flag 4 v) (channel_of k (picked d v))) k
control_written Mode d v k = programmed (picked d v) (with_mode (mode_of v) (channel_of k (picked d v))) k
control_written ExtendedMode d v k = programmed (picked d v) (with_extended_mode v (channel_of k (picked d v))) k
control_written ClearPointer d v k = at_dma d (with_pointer false) k
control_written MasterClear d v k = with_service (over_in d k.service) (at_dma d cleared_group k)
control_written ClearMasks d v k = at_dma d (with_masks 0) k
control_written AllMasks d v k = at_dma d (with_masks v) k

-- an accepted write
abbrev pub accepted_at : WritePort → ℕ → Registers → Registers
accepted_at (write.Field f c) v k = field_written f c v k
accepted_at (write.ListCommand c) v k = list_written c v k
accepted_at (write.Control x d) v k = control_written x d v k

-- a refused write changes nothing
abbrev pub written_at : WritePort → ℕ → Registers → Registers
written_at w v k = cond (refusal_at k w v == 0) (accepted_at w v k) k

-- the refusal of a write to a port: 1 where there is no such port to write
abbrev pub refusal_for : Registers → Option WritePort → ℕ → ℕ
refusal_for k None v = 1
refusal_for k (Some w) v = refusal_at k w v

-- the registers after a write to a port; where there is none, nothing changes
abbrev pub written_for : Option WritePort → ℕ → Registers → Registers
written_for None v k = k
written_for (Some w) v k = written_at w v k

-- THE WRITE of a byte to a port: the number that it answers
abbrev pub write_number : Registers → ℕ → ℕ → ℕ
write_number k port v = refusal_for k (write_port port) v

-- and the registers after it
abbrev pub written : ℕ → ℕ → Registers → Registers
written port v k = written_for (write_port port) v k

-- what a field shows: current registers; of the table pointer, one byte
abbrev pub field_value : Registers → Field → ℕ → ℕ
field_value k Address c = byte_of (high_byte k c) (channel_of k c).current.place.address
field_value k Count c = byte_of (high_byte k c) (channel_of k c).current.count
field_value k LowPage c = (channel_of k c).current.place.low
field_value k HighPage c = (channel_of k c).current.place.high
field_value k (Table n) c = table_byte n (channel_of k c).list

-- a read of an address or a count flips the byte pointer
abbrev pub field_read : Field → ℕ → Registers → Registers
field_read Address c k = at_group_of c flipped k
field_read Count c k = at_group_of c flipped k
field_read LowPage c k = k
field_read HighPage c k = k
field_read (Table n) c k = k

-- what a port shows
abbrev pub value_at : Registers → ReadPort → ℕ
value_at k (read.Field f c) = field_value k f c
value_at k (read.ListStatus c) = list_status (channel_of k c).list
value_at k (read.Status One) = status_of false k.first
value_at k (read.Status Two) = status_of true k.second
value_at k (read.AllMasks One) = masks k.first
value_at k (read.AllMasks Two) = masks k.second
value_at k read.Irq13 = irq13s k.first + irq13s k.second * 16

-- a read of the status clears the group's terminal counts
abbrev pub read_at : ReadPort → Registers → Registers
read_at (read.Field f c) k = field_read f c k
read_at (read.ListStatus c) k = k
read_at (read.Status d) k = at_dma d without_terminals k
read_at (read.AllMasks d) k = k
read_at read.Irq13 k = k

-- the number that a read answers: 1 where there is no such port to read
abbrev pub number_for : Option ReadPort → ℕ
number_for None = 1
number_for (Some p) = 0

-- the value that it answers: 0 where there is no such port
abbrev pub value_for : Registers → Option ReadPort → ℕ
value_for k None = 0
value_for k (Some p) = value_at k p

-- the registers after it; where there is no such port, nothing changes
abbrev pub read_for : Option ReadPort → Registers → Registers
read_for None k = k
read_for (Some p) k = read_at p k

-- THE READ of a port: the number that it answers
abbrev pub read_number : ℕ → ℕ
read_number port = number_for (read_port port)

-- the value that it answers
abbrev pub read_value : Registers → ℕ → ℕ
read_value k port = value_for k (read_port port)

-- and the registers after it
abbrev pub read_leaves : ℕ → Registers → Registers
read_leaves port k = read_for (read_port port) k

-- THE LINES: bit c is channel c's level; with bit 4 set it is refused, 7
abbrev pub lines_number : ℕ → ℕ
lines_number bits = cond (flag 16 bits) 7 0

-- and then no line changes
abbrev pub lined : ℕ → Registers → Registers
lined bits k = cond (flag 16 bits) k (at_second (with_lines (bits / 16)) (at_first (with_lines (bits % 16)) k))
