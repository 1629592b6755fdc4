-- A channel's registers after a transfer: the address moves, the count falls, and a count that ends has its effects.
use Rattle.std.specs.Prelude.{ℕ, ◌-◌, Bool, true, false, cond, ◌||◌, Some, None, Option, ◌==◌}
use Rattle.bus.specs.declared.place.Course.{Course}
use Rattle.bus.specs.declared.place.Addressing.TheVariants.{Bytes}
use Rattle.bus.specs.Address.{moved_place, place_at}
use Rattle.bus.specs.Plan.{planned}
use Rattle.registers.specs.declared.channel.Channel.{Channel}
use Rattle.registers.specs.declared.channel.Span.{Span}
use Rattle.registers.specs.declared.list.List.{List as Chain}
use Rattle.registers.specs.declared.list.Entry.{Entry}
use Rattle.registers.specs.declared.list.Signal.TheVariants.{Eop}
use Rattle.registers.specs.declared.mode.Service.{Service}
use Rattle.registers.specs.declared.mode.Service.TheVariants.{Demand, Single, Block, Cascade}
use Rattle.registers.specs.Channels.{with_list, with_mask, with_request, with_terminal, is_irq13}
use Rattle.controller.specs.declared.passing.Passed.{Passed}

-- how a channel's address moves
abbrev pub course_of : Channel → Course
course_of ch = record { addressing = ch.addressing; extended = ch.extended; decrement = ch.mode.decrement }

-- the address that the next transfer passes: the first of the plan
abbrev pub passes : Channel → ℕ
passes ch = planned (course_of ch) ch.current.place 0

-- a count falls by one; from 0 it goes to FFFFh, and ends
abbrev pub less_one : ℕ → ℕ
less_one n = cond (n == 0) 65535 (n - 1)

-- the current registers one unit on
abbrev pub stepped : Channel → Span
stepped ch = record { place = moved_place (course_of ch) ch.current.place; count = less_one ch.current.count }

-- other current registers
abbrev pub with_current : Span → Channel → Channel
with_current x ch = record ch { current = x }

-- the end of a plain job: terminal count, no request; autoinitialise reloads base, otherwise the mask is set
abbrev pub plain_end : Channel → Channel
plain_end ch = record ch { current = cond ch.mode.autoinitialise ch.base ch.current; mask = cond ch.mode.autoinitialise ch.mask true; request = false; terminal = true }

-- the registers that an entry is loaded into
abbrev pub entry_span : Entry → Span
entry_span e = record { place = place_at Bytes e.address 0; count = e.count }

-- a list with or without a current entry, and with that reserve
abbrev pub holding : Bool → Option Entry → Chain → Chain
holding current reserve l = record l { loaded = current; reserve = reserve }

-- an entry becomes current: its address is extended
abbrev pub loaded_with : Entry → Channel → Channel
loaded_with e ch = record ch { current = entry_span e; extended = true }

-- a list that is over by its end: inactive, nothing loaded; where IRQ13 is selected its bit is set
abbrev pub ended_list : Chain → Chain
ended_list l = record l { active = false; loaded = false; reserve = None; irq13 = is_irq13 l.signal || l.irq13 }

-- the end of a list: terminal count, no request, masked
abbrev pub list_end : Channel → Channel
list_end ch = with_list (ended_list ch.list) (with_terminal true (with_request false (with_mask true ch)))

-- no entry is fetched after EOL or Stop
abbrev pub closed : Chain → Bool
closed l = l.ended || l.stopped

-- the end of an entry: the reserve becomes current; without one the list ends if it is closed, else waits for a fetch
abbrev pub entry_end : Option Entry → Channel → Passed
entry_end (Some e) ch = record { channel = with_list (holding true None ch.list) (loaded_with e ch); signal = None; over = true }
entry_end None ch = cond (closed ch.list)
    (record { channel = list_end ch; signal = Some ch.list.signal; over = true })
    (record { channel = with_list (holding false None ch.list) ch; signal = None; over = true })

-- a single service is over after one transfer
abbrev pub is_single : Service → Bool
is_single Demand = false
is_single Single = true
is_single Block = false
is_single Cascade = false

-- where a count ends, so does the service
abbrev pub count_end : Channel → Passed
count_end ch = cond ch.list.active (entry_end ch.list.reserve ch) (record { channel = plain_end ch; signal = Some Eop; over = true })

-- a channel after a transfer, the signal that it gives, and whether its service is over
abbrev pub passed : Channel → Passed
passed ch = cond (ch.current.count == 0)
    (count_end (with_current (stepped ch) ch))
    (record { channel = with_current (stepped ch) ch; signal = None; over = is_single ch.mode.service })

-- a fault sets the mask and clears the request bit, nothing else
abbrev pub faulted : Channel → Channel
faulted ch = with_mask true (with_request false ch)
