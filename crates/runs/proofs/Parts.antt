-- The part of a channel's registers that its plan is worked out from, and what leaves it.
use Rattle.std.proofs.Common.{◌≡◌, ℕ, ◌%◌, Bool, true, false, ltb, get_or, Option, refl, arith}
use Rattle.bus.specs.declared.place.Addressing.{Addressing}
use Rattle.registers.specs.declared.channel.Channel.{Channel}
use Rattle.registers.specs.declared.channel.Span.{Span}
use Rattle.registers.specs.declared.list.Entry.{Entry}
use Rattle.registers.specs.declared.mode.Mode.{Mode}
use Rattle.registers.specs.declared.group.Group.{Group}
use Rattle.registers.specs.declared.file.Registers.{Registers}
use Rattle.registers.specs.Channels.{blank}
use Rattle.registers.specs.Groups.{slot_of, each_slot}
use Rattle.registers.specs.File.{channel_of, at_first, at_second}
use Rattle.arbiter.proofs.Masks.{below_four}

pub record Part : Type 0 where
  pub current : Span
  pub extended : Bool
  pub mode : Mode
  pub addressing : Addressing
  pub active : Bool
  pub loaded : Bool
  pub reserve : Option Entry
  pub ended : Bool
  pub stopped : Bool
  pub entries : ℕ
  pub next : ℕ

abbrev pub part_of : Channel → Part
part_of ch = record {
  current = ch.current;
  extended = ch.extended;
  mode = ch.mode;
  addressing = ch.addressing;
  active = ch.list.active;
  loaded = ch.list.loaded;
  reserve = ch.list.reserve;
  ended = ch.list.ended;
  stopped = ch.list.stopped;
  entries = ch.list.entries;
  next = ch.list.next;
}

-- a function that leaves that part
abbrev pub Leaves : (Channel → Channel) → Type 0
Leaves f = (ch : Channel) → part_of (f ch) ≡ part_of ch

-- what is done to each channel of a group, and leaves the part, leaves it
pub each_leaves : (f₀ f₁ f₂ f₃ : Channel → Channel) (g : Group) → Leaves f₀ → Leaves f₁ → Leaves f₂ → Leaves f₃
    → (n : ℕ) → part_of (slot_of (each_slot f₀ f₁ f₂ f₃ g) n) ≡ part_of (slot_of g n)
each_leaves f₀ f₁ f₂ f₃ g a b c d n =
    let P : ℕ → Type 0 = λ j. part_of (get_or (each_slot f₀ f₁ f₂ f₃ g).channels j blank) ≡ part_of (get_or g.channels j blank) in
    below_four P (a (slot_of g 0)) (b (slot_of g 1)) (c (slot_of g 2)) (d (slot_of g 3)) (n % 4) (omega arith)

-- the part of each channel after a change of one group
pub first_leaves : (f : Group → Group) (k : Registers) (c : ℕ) → ((n : ℕ) → part_of (slot_of (f k.first) n) ≡ part_of (slot_of k.first n))
    → part_of (channel_of (at_first f k) c) ≡ part_of (channel_of k c)
first_leaves f k c h = go (ltb c 4) refl
  where
    go : (q : Bool) → ltb c 4 ≡ q → part_of (channel_of (at_first f k) c) ≡ part_of (channel_of k c)
    go true q = rw q (h c)
    go false q = rw q

pub second_leaves : (f : Group → Group) (k : Registers) (c : ℕ) → ((n : ℕ) → part_of (slot_of (f k.second) n) ≡ part_of (slot_of k.second n))
    → part_of (channel_of (at_second f k) c) ≡ part_of (channel_of k c)
second_leaves f k c h = go (ltb c 4) refl
  where
    go : (q : Bool) → ltb c 4 ≡ q → part_of (channel_of (at_second f k) c) ≡ part_of (channel_of k c)
    go true q = rw q
    go false q = rw q (h c)
