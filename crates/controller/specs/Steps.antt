-- A step: one thing done, and what it answers.
use Rattle.std.specs.Prelude.{◌≡◌, ℕ, Bool, false, cond, not, ◌&&◌, Some, None, Ok, Err, Option, Result}
use Rattle.std.specs.Option.{unwrap_or}
use Rattle.arbiter.specs.declared.groups.Side.{Side}
use Rattle.arbiter.specs.declared.groups.Choice.{Choice}
use Rattle.arbiter.specs.Slots.{mask_of}
use Rattle.arbiter.specs.Groups.{winner_of, group_of as side_group}
use Rattle.registers.specs.declared.group.Group.{Group}
use Rattle.registers.specs.declared.file.Registers.{Registers}
use Rattle.registers.specs.Modes.{is_cascade}
use Rattle.registers.specs.File.{fresh_file, channel_of, with_channel, with_service}
use Rattle.controller.specs.declared.controller.Controller.{Controller}
use Rattle.controller.specs.declared.controller.Bus.{Bus}
use Rattle.controller.specs.declared.controller.Bus.TheVariants.{Home, Out, Taken}
use Rattle.controller.specs.declared.fault.Fault.{Fault}
use Rattle.controller.specs.declared.event.Event.{Event}
use Rattle.controller.specs.declared.event.Event.TheVariants.{Idle, Away, Lent, Fetched, Moved}
use Rattle.controller.specs.declared.passing.Passed.{Passed}
use Rattle.controller.specs.declared.fetching.Fetched.{Fetched as Found}
use Rattle.controller.specs.Outside.{Outside}
use Rattle.controller.specs.Passing.{passes, passed, faulted}
use Rattle.controller.specs.Asking.{asks, goes_on, first_fetching}
use Rattle.controller.specs.Carrying.{carried}
use Rattle.controller.specs.Fetching.{fetch_of, filled}

-- the registers, where the bus is, and what the controller works on
pub record State : Type 0 where
  pub registers : Registers
  pub bus : Bus
  pub world : Outside

-- the state of a controller that works on o
abbrev pub state_of : Controller → Outside → State
state_of k o = record { registers = k.registers; bus = k.bus; world = o }

-- other registers
abbrev pub with_registers : Registers → State → State
with_registers k s = record s { registers = k }

-- another memory and other devices
abbrev pub with_world : Outside → State → State
with_world o s = record s { world = o }

-- the bus elsewhere
abbrev pub with_bus : Bus → State → State
with_bus b s = record s { bus = b }

-- whatever it works on, a controller's state becomes what f makes of it
abbrev pub Becomes : Controller → Controller → (State → State) → Type 0
Becomes old new f = (o : Outside) → state_of new o ≡ f (state_of old o)

-- a new controller has the bus
abbrev pub fresh : Outside → State
fresh o = record { registers = fresh_file; bus = Home; world = o }

-- who asks in each group, its priority and its slot last chosen
abbrev pub first_side : Registers → Side
first_side k = record { asking = mask_of (asks k 0) (asks k 1) (asks k 2) (asks k 3); rotating = k.first.rotating; last = k.first.last }

-- in the second group channel 4 never asks
abbrev pub second_side : Registers → Side
second_side k = record { asking = mask_of false (asks k 5) (asks k 6) (asks k 7); rotating = k.second.rotating; last = k.second.last }

-- the choice between all channels that ask
abbrev pub choice_of : Registers → Option Choice
choice_of k = winner_of (side_group (first_side k)) (side_group (second_side k))

-- the slot last chosen
abbrev pub with_last : ℕ → Group → Group
with_last n g = record g { last = n }

-- a choice begins a service; the first group's slot is noted only if it chose
abbrev pub begun : Choice → Registers → Registers
begun w k = record {
  first = with_last (unwrap_or w.first k.first.last) k.first;
  second = with_last w.second k.second;
  service = Some w.channel;
}

-- after a transfer the service stays with its channel, or is over
abbrev pub served : ℕ → Bool → Option ℕ
served c over = cond over None (Some c)

-- a channel's registers and the service after a transfer
abbrev pub after_pass : ℕ → Passed → Registers → Registers
after_pass c p k = with_service (served c p.over) (with_channel c p.channel k)

-- a transfer that came through moves its channel's registers
abbrev pub moves : State → ℕ → Outside × Result ℕ Fault → State × Result Event Fault
moves s c (o, Ok u) = (
  with_world o (with_registers (after_pass c (passed (channel_of s.registers c)) s.registers) s),
  Ok (Moved c (passes (channel_of s.registers c)) u (passed (channel_of s.registers c)).signal),
)
moves s c (o, Err e) = (with_world o s, Err e)

-- a transfer at the address that the channel passes
abbrev pub transfer_of : State → ℕ → State × Result Event Fault
transfer_of s c = let ch = channel_of s.registers c in moves s c (carried ch.mode.transfer s.world c ch.addressing (passes ch))

-- a fetch that came through fills its channel; its address is the entry's place
abbrev pub fills : State → ℕ → Result Found Fault → State × Result Event Fault
fills s c (Ok x) = (with_registers (with_channel c (filled x (channel_of s.registers c)) s.registers) s, Ok (Fetched c (channel_of s.registers c).list.next))
fills s c (Err e) = (s, Err e)

-- a fetch from the channel's list
abbrev pub fetch_step : State → ℕ → State × Result Event Fault
fetch_step s c = fills s c (fetch_of s.world.kinds s.world.bytes c (channel_of s.registers c).list)

-- a cascade channel gets the bus
abbrev pub lends : State → ℕ → State × Result Event Fault
lends s c = (with_bus (Out c) s, Ok (Lent c))

-- what a channel in service does: cascade, fetch without a current entry of its active list, else transfer
abbrev pub service_of : State → ℕ → State × Result Event Fault
service_of s c = let ch = channel_of s.registers c in
    cond (is_cascade ch.mode.service) (lends s c)
    (cond (ch.list.active && not ch.list.loaded) (fetch_step s c) (transfer_of s c))

-- a fault masks its channel, clears its request bit, and ends the service
abbrev pub failed : ℕ → State → State
failed c s = with_registers (with_service None (with_channel c (faulted (channel_of s.registers c)) s.registers)) s

-- what came through stays as it is
abbrev pub settled : ℕ → State × Result Event Fault → State × Result Event Fault
settled c (s, Ok e) = (s, Ok e)
settled c (s, Err f) = (failed c s, Err f)

-- a channel in service, with a fault settled
abbrev pub serve : State → ℕ → State × Result Event Fault
serve s c = settled c (service_of s c)

-- nobody asks: the lowest channel that can fetches ahead, else the step is idle
abbrev pub ahead_of : State → Option ℕ → State × Result Event Fault
ahead_of s None = (s, Ok Idle)
ahead_of s (Some c) = settled c (fetch_step s c)

-- a choice begins a service
abbrev pub choose_of : State → Option Choice → State × Result Event Fault
choose_of s (Some w) = serve (with_registers (begun w s.registers) s) w.channel
choose_of s None = ahead_of (with_registers (with_service None s.registers) s) (first_fetching s.registers)

-- the service that went on until now, if it goes on
abbrev pub ongoing : Registers → Option ℕ → Option ℕ
ongoing k None = None
ongoing k (Some c) = cond (goes_on k c) (Some c) None

-- a service that goes on is served, else a channel is chosen
abbrev pub go_or_choose : State → Option ℕ → State × Result Event Fault
go_or_choose s (Some c) = serve s c
go_or_choose s None = choose_of s (choice_of s.registers)

-- with the bus out a step answers away
abbrev pub step_at : State → Bus → State × Result Event Fault
step_at s Home = go_or_choose s (ongoing s.registers s.registers.service)
step_at s (Out c) = (s, Ok Away)
step_at s (Taken c) = (s, Ok Away)

-- THE STEP
abbrev pub step_of : State → State × Result Event Fault
step_of s = step_at s s.bus
