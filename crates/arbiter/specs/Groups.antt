-- The choice between two groups, and what it means for the channels that ask.
use Rattle.std.specs.Prelude.{◌≡◌, ℕ, ◌+◌, ◌*◌, ◌<◌, ◌≤◌, Bool, true, false, cond, ◌||◌, ◌≢◌, Some, None, Option, ◌==◌}
use Rattle.std.specs.Option.{unwrap_or}
use Rattle.arbiter.specs.declared.groups.Side.{Side}
use Rattle.arbiter.specs.declared.groups.Choice.{Choice}
use Rattle.arbiter.specs.Slots.{asks_in, chosen_slot}
use Rattle.arbiter.specs.Waiting.{gap}

-- a group: which of its slots ask, its priority, and the slot last chosen
pub record Group : Type 0 where
  pub asks : ℕ → Bool
  pub rotating : Bool
  pub last : ℕ

-- the group that a side describes
abbrev pub group_of : Side → Group
group_of s = record { asks = asks_in s.asking; rotating = s.rotating; last = s.last }

-- the slot that a group chooses by itself
abbrev pub own_slot : Group → Option ℕ
own_slot g = chosen_slot g.asks g.rotating g.last

-- somebody asks
abbrev pub some_asks : (ℕ → Bool) → Bool
some_asks ask = ask 0 || (ask 1 || (ask 2 || ask 3))

-- slot 0 of the second group asks for the whole first group
abbrev pub outer_asks : Group → Group → ℕ → Bool
outer_asks first second k = cond (k == 0) (some_asks first.asks) (second.asks k)

-- a slot of the first group is the channel of that number
abbrev pub first_choice : Option ℕ → Option Choice
first_choice None = None
first_choice (Some s) = Some (record { channel = s; second = 0; first = Some s })

-- the slot that the second group chooses
abbrev pub outer_slot : Group → Group → Option ℕ
outer_slot first second = chosen_slot (outer_asks first second) second.rotating second.last

-- slot 0 lets the first group choose, and slots 1 to 3 are channels 5 to 7
abbrev pub second_choice : Option ℕ → Option ℕ → Option Choice
second_choice own None = None
second_choice own (Some s) = cond (s == 0) (first_choice own) (Some (record { channel = s + 4; second = s; first = None }))

-- the winner among both groups
abbrev pub winner_of : Group → Group → Option Choice
winner_of first second = second_choice (own_slot first) (outer_slot first second)

-- the slot last chosen in the first group after a choice: that group's own, if it chose
abbrev pub first_last : Option Choice → ℕ → ℕ
first_last None last = last
first_last (Some w) last = unwrap_or w.first last

-- the slot last chosen in the second group after a choice
abbrev pub second_last : Option Choice → ℕ → ℕ
second_last None last = last
second_last (Some w) last = w.second

-- a channel with its slots: 5 to 7 by the second group alone, 0 to 3 by slot 0 and the first group, and it asks there
abbrev pub ServedBy : Group → Group → ℕ → ℕ → Option ℕ → Type 0
ServedBy first second channel s None = (channel ≡ s + 4) × (0 < s) × (s < 4) × (second.asks s ≡ true)
ServedBy first second channel s (Some d) = (channel ≡ d) × (s ≡ 0) × (d < 4) × (first.asks d ≡ true)

-- the winner asks, and nobody wins only if nobody asks
abbrev pub Served : Group → Group → Option Choice → Type 0
Served first second None = (c : ℕ) → c < 4 → (first.asks c ≡ false) × (0 < c → second.asks c ≡ false)
Served first second (Some w) = ServedBy first second w.channel w.second w.first

-- how many choices can come before channel c of the first group, given the slots last chosen in both
abbrev pub distance : ℕ → ℕ → ℕ → ℕ
distance c own outer = 4 * gap c own + gap 0 outer

-- channel c of the first group wins, or comes nearer
abbrev pub FirstNearer : ℕ → Group → Group → Option Choice → Type 0
FirstNearer c first second None = ⊥
FirstNearer c first second (Some w) =
    c ≢ w.channel → distance c (first_last (Some w) first.last) (second_last (Some w) second.last) + 1 ≤ distance c first.last second.last

-- slot c of the second group wins, or comes nearer
abbrev pub SecondNearer : ℕ → Group → Option Choice → Type 0
SecondNearer c second None = ⊥
SecondNearer c second (Some w) = c ≢ w.second → gap c w.second + 1 ≤ gap c second.last

-- r is the choice between two groups
pub record Won (first second : Group) (r : Option Choice) : Type 0 where
  pub value : r ≡ winner_of first second
  pub asks : Served first second r
  -- both groups rotating, a channel of the first that asks wins or comes nearer
  pub waits_first : first.rotating ≡ true → second.rotating ≡ true → first.last < 4 → second.last < 4
      → (c : ℕ) → c < 4 → first.asks c ≡ true → FirstNearer c first second r
  -- rotating, a slot 1 to 3 of the second group that asks wins or comes nearer
  pub waits_second : second.rotating ≡ true → second.last < 4
      → (c : ℕ) → 0 < c → c < 4 → second.asks c ≡ true → SecondNearer c second r
