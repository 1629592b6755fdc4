-- The words of the law: what a turn of a run moved, stored, fetched and began, and the table of a list.
use Rattle.std.specs.Prelude.{ℕ, zero, suc, ◌*◌, ◌/◌, ◌%◌, Bool, true, false, cond, not, ◌&&◌, ◌||◌, List, [], ◌∷◌, length, is_some, Some, None, Ok, Err, Option, Result, ◌==◌, nat_lt}
use Rattle.arbiter.specs.declared.groups.Choice.{Choice}
use Rattle.bus.specs.declared.place.Addressing.{Addressing}
use Rattle.bus.specs.declared.place.Addressing.TheVariants.{Bytes, Words}
use Rattle.bus.specs.Plan.{plan}
use Rattle.registers.specs.declared.channel.Channel.{Channel}
use Rattle.registers.specs.declared.list.Signal.{Signal}
use Rattle.registers.specs.declared.mode.Transfer.{Transfer}
use Rattle.registers.specs.declared.mode.Transfer.TheVariants.{Verify, Write, Read}
use Rattle.registers.specs.declared.ports.Dma.{Dma}
use Rattle.registers.specs.declared.ports.Dma.TheVariants.{One, Two}
use Rattle.registers.specs.declared.ports.Field.{Field}
use Rattle.registers.specs.declared.ports.Field.TheVariants as field
use Rattle.registers.specs.declared.ports.Control.{Control}
use Rattle.registers.specs.declared.ports.Control.TheVariants as control
use Rattle.registers.specs.declared.ports.WritePort.{WritePort}
use Rattle.registers.specs.declared.ports.WritePort.TheVariants as target
use Rattle.registers.specs.Ports.{write_port}
use Rattle.registers.specs.File.{channel_of, picked}
use Rattle.controller.specs.declared.controller.Bus.{Bus}
use Rattle.controller.specs.declared.controller.Bus.TheVariants as bus
use Rattle.controller.specs.declared.event.Event.{Event}
use Rattle.controller.specs.declared.event.Event.TheVariants as event
use Rattle.controller.specs.declared.fault.Fault.{Fault}
use Rattle.controller.specs.declared.fetching.Fetched.{Fetched as Entry}
use Rattle.controller.specs.declared.grant.Cycle.{Cycle}
use Rattle.controller.specs.declared.grant.Cycle.TheVariants as cycle
use Rattle.controller.specs.Outside.{Outside}
use Rattle.controller.specs.Steps.{State, choice_of, ongoing}
use Rattle.controller.specs.Passing.{entry_span}
use Rattle.controller.specs.Carrying.{above}
use Rattle.controller.specs.Fetching.{entry_at, most_entries}
use Rattle.runs.specs.declared.calls.Call.{Call}
use Rattle.runs.specs.declared.calls.Call.TheVariants as call
use Rattle.runs.specs.Told.{Told}
use Rattle.runs.specs.Told as answer
use Rattle.runs.specs.Calls.{Turn}

-- a unit that was transferred, as the step answered it
pub record Move : Type 0 where
  pub channel : ℕ
  pub address : ℕ
  pub unit : ℕ
  pub signal : Option Signal

-- the transfer that an answer tells of
abbrev pub moved_by : Result Event Fault → Option Move
moved_by (Ok event.Idle) = None
moved_by (Ok event.Away) = None
moved_by (Ok (event.Lent c)) = None
moved_by (Ok (event.Fetched c a)) = None
moved_by (Ok (event.Moved c a u s)) = Some (record { channel = c; address = a; unit = u; signal = s })
moved_by (Err f) = None

-- the transfer that an answer tells of
abbrev pub told : Told → Option Move
told (answer.Write n) = None
told (answer.Read n v) = None
told (answer.Lines n) = None
told (answer.Step r) = moved_by r
told (answer.Inspect n a k) = None
told (answer.Take n c) = None
told (answer.Cycle n b) = None
told (answer.Release n) = None

-- that transfer, if it is of channel c
abbrev pub of_channel : ℕ → Option Move → Option Move
of_channel c None = None
of_channel c (Some m) = cond (c == m.channel) (Some m) None

-- a turn's transfer, if it is of channel c
abbrev pub move_of : ℕ → Turn → Option Move
move_of c t = of_channel c (told t.answer)

-- the place of the entry that a step of channel c fetched
abbrev pub fetched_by : ℕ → Result Event Fault → Option ℕ
fetched_by c (Ok event.Idle) = None
fetched_by c (Ok event.Away) = None
fetched_by c (Ok (event.Lent d)) = None
fetched_by c (Ok (event.Fetched d a)) = cond (c == d) (Some a) None
fetched_by c (Ok (event.Moved d a u s)) = None
fetched_by c (Err f) = None

-- the place of the entry that an answer of channel c tells of
abbrev pub fetch_in : ℕ → Told → Option ℕ
fetch_in c (answer.Write n) = None
fetch_in c (answer.Read n v) = None
fetch_in c (answer.Lines n) = None
fetch_in c (answer.Step r) = fetched_by c r
fetch_in c (answer.Inspect n a k) = None
fetch_in c (answer.Take n d) = None
fetch_in c (answer.Cycle n b) = None
fetch_in c (answer.Release n) = None

-- a turn's fetch, if it is of channel c
abbrev pub fetch_of : ℕ → Turn → Option ℕ
fetch_of c t = fetch_in c t.answer

-- a channel's transfers go the way that its mode says before the step
abbrev pub way_of : State → Move → Transfer
way_of s m = (channel_of s.registers m.channel).mode.transfer

-- a transfer's units are as wide as its channel's addressing says
abbrev pub width_of : State → Move → Addressing
width_of s m = (channel_of s.registers m.channel).addressing

-- the unit that a turn carried from the device of channel c to memory
abbrev pub in_by : Transfer → ℕ → List ℕ
in_by Verify u = []
in_by Write u = u ∷ []
in_by Read u = []

-- the unit that a transfer carried to memory, if there is one
abbrev pub units_in : State → Option Move → List ℕ
units_in s None = []
units_in s (Some m) = in_by (way_of s m) m.unit

-- the units that a turn carried from the device of channel c to memory
abbrev pub goes_in : ℕ → Turn → List ℕ
goes_in c t = units_in t.before (move_of c t)

-- the unit that a turn carried to the device
abbrev pub out_by : Transfer → ℕ → List ℕ
out_by Verify u = []
out_by Write u = []
out_by Read u = u ∷ []

-- the unit that a transfer carried to the device, if there is one
abbrev pub units_out : State → Option Move → List ℕ
units_out s None = []
units_out s (Some m) = out_by (way_of s m) m.unit

-- the units that a turn carried to the device of channel c
abbrev pub goes_out : ℕ → Turn → List ℕ
goes_out c t = units_out t.before (move_of c t)

-- the bytes of a unit in memory: a byte at its address, or a word's low byte there and its high byte above
abbrev pub bytes_at : Addressing → ℕ → ℕ → List (ℕ × ℕ)
bytes_at Bytes a u = (a, u) ∷ []
bytes_at Words a u = (a, u % 256) ∷ (above a, u / 256) ∷ []

-- a transfer stores its unit where it goes to memory
abbrev pub stored_when : Transfer → Addressing → ℕ → ℕ → List (ℕ × ℕ)
stored_when Verify w a u = []
stored_when Write w a u = bytes_at w a u
stored_when Read w a u = []

-- the bytes that a step's transfer stored
abbrev pub stored_by_move : State → Option Move → List (ℕ × ℕ)
stored_by_move s None = []
stored_by_move s (Some m) = stored_when (way_of s m) (width_of s m) m.address m.unit

-- the byte that a write cycle stored, where no refusal is told
abbrev pub stored_by_cycle : Cycle → ℕ → List (ℕ × ℕ)
stored_by_cycle (cycle.Read a) n = []
stored_by_cycle (cycle.Write a b) n = cond (n == 0) ((a, b) ∷ []) []

-- an accepted write cycle of a grant stores its byte
abbrev pub cycle_number_in : Told → ℕ
cycle_number_in (answer.Write n) = 0
cycle_number_in (answer.Read n v) = 0
cycle_number_in (answer.Lines n) = 0
cycle_number_in (answer.Step r) = 0
cycle_number_in (answer.Inspect n a k) = 0
cycle_number_in (answer.Take n c) = 0
cycle_number_in (answer.Cycle n b) = n
cycle_number_in (answer.Release n) = 0

-- the bytes that a turn stored in memory, by a transfer or by a cycle, in order
abbrev pub stored_in : State → Call → Told → List (ℕ × ℕ)
stored_in s (call.Write p v) r = []
stored_in s (call.Read p) r = []
stored_in s (call.Lines b) r = []
stored_in s call.Step r = stored_by_move s (told r)
stored_in s (call.Inspect c) r = []
stored_in s call.Take r = []
stored_in s (call.Cycle x) r = stored_by_cycle x (cycle_number_in r)
stored_in s call.Release r = []

-- the bytes that a turn stored
abbrev pub stored_bytes : Turn → List (ℕ × ℕ)
stored_bytes t = stored_in t.before t.call t.answer

-- the channels of a group
abbrev pub in_group : Dma → ℕ → Bool
in_group One c = nat_lt c 4
in_group Two c = not (nat_lt c 4)

-- the registers that begin a job where they are written to
abbrev pub field_begins : Field → Bool
field_begins field.Address = true
field_begins field.Count = true
field_begins field.LowPage = true
field_begins field.HighPage = true
field_begins (field.Table n) = false

-- the controls that begin a job of channel c
abbrev pub control_begins : Control → Dma → ℕ → ℕ → Bool
control_begins control.Command d v c = false
control_begins control.Request d v c = false
control_begins control.Mask d v c = false
control_begins control.Mode d v c = c == picked d v
control_begins control.ExtendedMode d v c = c == picked d v
control_begins control.ClearPointer d v c = false
control_begins control.MasterClear d v c = in_group d c
control_begins control.ClearMasks d v c = false
control_begins control.AllMasks d v c = false

-- a list command begins a job: Start, or Stop while the list is active with nothing loaded; the law's own words, which
-- cite nothing that the program's registers are defined by
abbrev pub list_begins_for : Channel → ℕ → Bool
list_begins_for ch v = v % 4 == 1 || (v % 4 == 2 && (ch.list.active && not ch.list.loaded))

-- a write to a port begins a job of channel c: to its address, count, low or high page, mode or extended mode, by Start,
-- by a Stop while its list is active with nothing loaded, or by its group's master clear
abbrev pub write_begins : State → Option WritePort → ℕ → ℕ → Bool
write_begins s None v c = false
write_begins s (Some (target.Field f d)) v c = field_begins f && c == d
write_begins s (Some (target.ListCommand d)) v c = c == d && list_begins_for (channel_of s.registers d) v
write_begins s (Some (target.Control x d)) v c = control_begins x d v c

-- a write that was accepted
abbrev pub accepted_write : Told → Bool
accepted_write (answer.Write n) = n == 0
accepted_write (answer.Read n v) = false
accepted_write (answer.Lines n) = false
accepted_write (answer.Step r) = false
accepted_write (answer.Inspect n a k) = false
accepted_write (answer.Take n c) = false
accepted_write (answer.Cycle n b) = false
accepted_write (answer.Release n) = false

-- a transfer that signals begins the next job
abbrev pub signalled : Option Move → Bool
signalled None = false
signalled (Some m) = is_some m.signal

-- a call that begins a job of channel c: an accepted write that does, or a step whose transfer of c signals
abbrev pub call_begins : State → Call → Told → ℕ → Bool
call_begins s (call.Write p v) r c = accepted_write r && write_begins s (write_port p) v c
call_begins s (call.Read p) r c = false
call_begins s (call.Lines b) r c = false
call_begins s call.Step r c = signalled (of_channel c (told r))
call_begins s (call.Inspect d) r c = false
call_begins s call.Take r c = false
call_begins s (call.Cycle x) r c = false
call_begins s call.Release r c = false

-- a turn begins a job of channel c
abbrev pub begins_job : ℕ → Turn → Bool
begins_job c t = call_begins t.before t.call t.answer c

-- an accepted Stop of channel c
abbrev pub stop_at : Option WritePort → ℕ → ℕ → Bool
stop_at None v c = false
stop_at (Some (target.Field f d)) v c = false
stop_at (Some (target.ListCommand d)) v c = c == d && v % 4 == 2
stop_at (Some (target.Control x d)) v c = false

-- a call that is an accepted Stop of channel c
abbrev pub stop_call : Call → Told → ℕ → Bool
stop_call (call.Write p v) r c = accepted_write r && stop_at (write_port p) v c
stop_call (call.Read p) r c = false
stop_call (call.Lines b) r c = false
stop_call call.Step r c = false
stop_call (call.Inspect d) r c = false
stop_call call.Take r c = false
stop_call (call.Cycle x) r c = false
stop_call call.Release r c = false

-- a turn that is an accepted Stop of channel c
abbrev pub stops : ℕ → Turn → Bool
stops c t = stop_call t.call t.answer c

-- the entries of a table from a place on: each of eight present bytes, up to EOL, the first unreadable one, or so many
abbrev pub with_rest : Result Entry Fault → (ℕ → List Entry) → List Entry
with_rest (Ok e) rest = cond e.last (e ∷ []) (e ∷ rest e.next)
with_rest (Err f) rest = []

-- at most n entries from the place a on
unfoldable pub entries_from : ℕ → Outside → ℕ → List Entry
entries_from zero o a = []
entries_from (suc n) o a = with_rest (entry_at o.kinds o.bytes 0 a) (entries_from n o)

-- the entries of the table at a, as many as a list may have
abbrev pub entries_at : Outside → ℕ → List Entry
entries_at o a = entries_from most_entries o a

-- the last entry of a table has the end mark
abbrev pub ends_by_eol : List Entry → Bool
ends_by_eol [] = false
ends_by_eol (e ∷ es) = e.last || ends_by_eol es

-- the addresses of an entry: its count and one more, extended from its address, up or down
abbrev pub entry_addresses : Channel → Entry → List ℕ
entry_addresses ch e = plan (record { addressing = ch.addressing; extended = true; decrement = ch.mode.decrement })
    (entry_span e.entry).place (suc e.entry.count)

-- the places of so many bytes, from a on
abbrev pub places : ℕ → ℕ → List ℕ
places zero a = []
places (suc n) a = a ∷ places n (above a)

-- a table is the bytes of its entries
abbrev pub table_of : ℕ → List Entry → List ℕ
table_of a es = places (8 * length es) a

-- the channel of a choice
abbrev pub chosen_channel : Option Choice → Option ℕ
chosen_channel None = None
chosen_channel (Some w) = Some w.channel

-- a choice begins a service only while none goes on
abbrev pub unless_ongoing : Option ℕ → Option ℕ → Option ℕ
unless_ongoing (Some c) o = None
unless_ongoing None o = o

-- the service that a step begins, by where the bus is
abbrev pub begun_at : State → Bus → Option ℕ
begun_at s bus.Home = unless_ongoing (ongoing s.registers s.registers.service) (chosen_channel (choice_of s.registers))
begun_at s (bus.Out c) = None
begun_at s (bus.Taken c) = None

-- the service that a call begins: a step alone does
abbrev pub service_in : State → Call → Option ℕ
service_in s (call.Write p v) = None
service_in s (call.Read p) = None
service_in s (call.Lines b) = None
service_in s call.Step = begun_at s s.bus
service_in s (call.Inspect c) = None
service_in s call.Take = None
service_in s (call.Cycle x) = None
service_in s call.Release = None

-- the channel whose service a turn begins: a step with the bus here, while somebody asks and no service goes on
abbrev pub service_begun : Turn → Option ℕ
service_begun t = service_in t.before t.call
