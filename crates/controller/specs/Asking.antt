-- Who asks for the bus, who goes on with it, and who fetches when nobody asks.
use Rattle.std.specs.Prelude.{ℕ, Bool, cond, not, ◌&&◌, ◌||◌, Some, None, Option, nat_lt}
use Rattle.registers.specs.declared.channel.Channel.{Channel}
use Rattle.registers.specs.declared.group.Group.{Group}
use Rattle.registers.specs.declared.file.Registers.{Registers}
use Rattle.registers.specs.declared.list.List.{List as Chain}
use Rattle.registers.specs.Modes.{is_block}
use Rattle.registers.specs.Channels.{is_loaded}
use Rattle.registers.specs.Groups.{slot_of, active}
use Rattle.registers.specs.File.{channel_of, group_of}
use Rattle.controller.specs.Passing.{closed}

-- by its line while its mask is clear, or by its request bit in block mode
abbrev pub wants : Group → Channel → Bool
wants g ch = (active g ch && not ch.mask) || (ch.request && is_block ch.mode.service)

-- the second group may have the bus
abbrev pub second_open : Registers → Bool
second_open k = not k.second.disabled

-- and through its first slot, channel 4, the first group
abbrev pub first_open : Registers → Bool
first_open k = not k.first.disabled && (second_open k && not (slot_of k.second 0).mask)

-- a channel's group is enabled; 0 to 3 need the second group and channel 4's mask clear too
abbrev pub allowed : Registers → ℕ → Bool
allowed k c = cond (nat_lt c 4) (first_open k) (second_open k)

-- a channel asks
abbrev pub asks : Registers → ℕ → Bool
asks k c = allowed k c && wants (group_of k c) (channel_of k c)

-- somebody of channels 0 to 3 asks
abbrev pub first_ask : Registers → Bool
first_ask k = asks k 0 || (asks k 1 || (asks k 2 || asks k 3))

-- a service goes on: in block mode while the mask is clear or the request bit set, else while its channel asks
abbrev pub goes_on : Registers → ℕ → Bool
goes_on k c = cond (is_block (channel_of k c).mode.service)
    (allowed k c && (not (channel_of k c).mask || (channel_of k c).request))
    (asks k c)

-- a list that can still fetch: active, no EOL fetched, no Stop
abbrev pub is_open : Chain → Bool
is_open l = l.active && not (closed l)

-- a place for an entry: no current, or no reserve
abbrev pub has_place : Chain → Bool
has_place l = not (l.loaded && is_loaded l.reserve)

-- a channel fetches ahead if its mask is clear, its list is open and it has a place
abbrev pub fetches : Registers → ℕ → Bool
fetches k c = not (channel_of k c).mask && (is_open (channel_of k c).list && has_place (channel_of k c).list)

-- the lowest channel that fetches ahead
abbrev pub first_fetching : Registers → Option ℕ
first_fetching k =
    cond (fetches k 0) (Some 0) (cond (fetches k 1) (Some 1) (cond (fetches k 2) (Some 2) (cond (fetches k 3) (Some 3)
    (cond (fetches k 5) (Some 5) (cond (fetches k 6) (Some 6) (cond (fetches k 7) (Some 7) None))))))
