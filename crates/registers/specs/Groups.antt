-- A group of four channels, and what its own registers do.
use Rattle.std.specs.Prelude.{◌≡◌, ℕ, ◌+◌, ◌*◌, ◌%◌, Bool, false, cond, not, ◌&&◌, ◌||◌, List, [], ◌∷◌, slice_index_or, slice_set}
use Rattle.bus.specs.declared.place.Addressing.{Addressing}
use Rattle.registers.specs.declared.channel.Channel.{Channel}
use Rattle.registers.specs.declared.group.Group.{Group}
use Rattle.registers.specs.declared.ports.Control.{Control}
use Rattle.registers.specs.declared.ports.Control.TheVariants.{Command, Request, Mask, Mode, ExtendedMode, ClearPointer, MasterClear, ClearMasks, AllMasks}
use Rattle.arbiter.specs.Slots.{mask_of}
use Rattle.registers.specs.Modes.{flag}
use Rattle.registers.specs.Channels.{blank, fresh, cleared, with_mask, with_line, with_terminal}

-- the channel at a slot, 0 to 3
abbrev pub slot_of : Group → ℕ → Channel
slot_of g n = slice_index_or g.channels (n % 4) blank

-- the group with other channels
abbrev pub with_channels : List Channel → Group → Group
with_channels cs g = record g { channels = cs }

-- the group with another channel at a slot
abbrev pub with_slot : ℕ → Channel → Group → Group
with_slot n ch g = with_channels (slice_set g.channels (n % 4) ch) g

-- a function at each of the four channels
abbrev pub each_slot : (Channel → Channel) → (Channel → Channel) → (Channel → Channel) → (Channel → Channel) → Group → Group
each_slot f₀ f₁ f₂ f₃ g = with_channels (f₀ (slot_of g 0) ∷ f₁ (slot_of g 1) ∷ f₂ (slot_of g 2) ∷ f₃ (slot_of g 3) ∷ []) g

-- a group of these channels at rest: enabled, fixed priority, active high, low byte next; the first slot is looked at first
abbrev pub rest_group : List Channel → Group
rest_group cs = record { channels = cs; disabled = false; rotating = false; active_low = false; pointer = record { high = false }; last = 3 }

-- a new group: all four channels new, the first with an addressing of its own
abbrev pub fresh_group : Addressing → Addressing → Group
fresh_group head tail = rest_group (fresh head ∷ fresh tail ∷ fresh tail ∷ fresh tail ∷ [])

-- the command register: bit 2 disables, bit 4 rotates, bit 6 makes lines active low
abbrev pub with_command : ℕ → Group → Group
with_command v g = record g { disabled = flag 4 v; rotating = flag 16 v; active_low = flag 64 v }

-- the byte pointer set
abbrev pub with_pointer : Bool → Group → Group
with_pointer high g = record g { pointer = record { high = high } }

-- the byte pointer flipped
abbrev pub flipped : Group → Group
flipped g = with_pointer (not g.pointer.high) g

-- all four masks: slot n's is bit n
abbrev pub with_masks : ℕ → Group → Group
with_masks v g = each_slot (with_mask (flag 1 v)) (with_mask (flag 2 v)) (with_mask (flag 4 v)) (with_mask (flag 8 v)) g

-- all four lines: slot n's is bit n
abbrev pub with_lines : ℕ → Group → Group
with_lines v g = each_slot (with_line (flag 1 v)) (with_line (flag 2 v)) (with_line (flag 4 v)) (with_line (flag 8 v)) g

-- the terminal count bits cleared
abbrev pub without_terminals : Group → Group
without_terminals g = each_slot (with_terminal false) (with_terminal false) (with_terminal false) (with_terminal false) g

-- master clear: as new, but for what a cleared channel keeps
abbrev pub cleared_group : Group → Group
cleared_group g = rest_group (cleared (slot_of g 0) ∷ cleared (slot_of g 1) ∷ cleared (slot_of g 2) ∷ cleared (slot_of g 3) ∷ [])

-- bits is the number of the flags that f gives of the four slots and their channels, slot 0's as bit 0
pub record Gathers (f : ℕ → Channel → Bool → Type 0) (g : Group) (bits : ℕ) : Type 0 where
  pub a : Bool
  pub b : Bool
  pub c : Bool
  pub d : Bool
  pub first : f 0 (slot_of g 0) a
  pub second : f 1 (slot_of g 1) b
  pub third : f 2 (slot_of g 2) c
  pub fourth : f 3 (slot_of g 3) d
  pub whole : bits ≡ mask_of a b c d

-- each channel of the new group is what f makes of the old one and of its slot's bit
pub record Renews (f : Channel → Bool → Channel → Type 0) (bits : ℕ) (old new : Group) : Type 0 where
  pub a : Channel
  pub b : Channel
  pub c : Channel
  pub d : Channel
  pub first : f (slot_of old 0) (flag 1 bits) a
  pub second : f (slot_of old 1) (flag 2 bits) b
  pub third : f (slot_of old 2) (flag 4 bits) c
  pub fourth : f (slot_of old 3) (flag 8 bits) d
  pub whole : new ≡ with_channels (a ∷ b ∷ c ∷ d ∷ []) old

-- the masks as a number
abbrev pub masks : Group → ℕ
masks g = mask_of (slot_of g 0).mask (slot_of g 1).mask (slot_of g 2).mask (slot_of g 3).mask

-- the IRQ13 bits as a number
abbrev pub irq13s : Group → ℕ
irq13s g = mask_of (slot_of g 0).list.irq13 (slot_of g 1).list.irq13 (slot_of g 2).list.irq13 (slot_of g 3).list.irq13

-- a line is active where its level and the polarity differ
abbrev pub active : Group → Channel → Bool
active g ch = cond g.active_low (not ch.line) ch.line

-- a request shows in status whatever mask, mode and enable say: an active line, or the request bit
abbrev pub requested : Group → ℕ → Bool
requested g n = active g (slot_of g n) || (slot_of g n).request

-- the terminal count bits as a number; a slot that cascades the other group shows 0
abbrev pub terminals : Bool → Group → ℕ
terminals cascades g = mask_of ((slot_of g 0).terminal && not cascades) (slot_of g 1).terminal (slot_of g 2).terminal (slot_of g 3).terminal

-- the requests as a number, with a 0 there likewise
abbrev pub requests : Bool → Group → ℕ
requests cascades g = mask_of (requested g 0 && not cascades) (requested g 1) (requested g 2) (requested g 3)

-- the status register: bits 7:4 requests, 3:0 terminal counts
abbrev pub status_of : Bool → Group → ℕ
status_of cascades g = terminals cascades g + requests cascades g * 16

-- what a group's register does to the group alone; the others speak of a channel or of the service
abbrev pub group_written : Control → ℕ → Group → Group
group_written Command v g = with_command v g
group_written Request v g = g
group_written Mask v g = g
group_written Mode v g = g
group_written ExtendedMode v g = g
group_written ClearPointer v g = with_pointer false g
group_written MasterClear v g = g
group_written ClearMasks v g = with_masks 0 g
group_written AllMasks v g = with_masks v g
