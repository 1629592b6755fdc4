-- What a choice means for the slots that ask.
use Rattle.std.specs.Prelude.{◌≡◌, ℕ, ◌+◌, ◌-◌, ◌%◌, ◌<◌, ◌≤◌, Bool, true, false, ◌≢◌, Some, None, Option}
use Rattle.arbiter.specs.Slots.{chosen_slot}

-- the chosen slot asks, and nobody is chosen only if nobody asks
abbrev pub Asking : (ℕ → Bool) → Option ℕ → Type 0
Asking ask None = (c : ℕ) → c < 4 → ask c ≡ false
Asking ask (Some d) = (d < 4) × (ask d ≡ true)

-- of c and the chosen slot, c is not the lower one
abbrev pub NotLower : ℕ → Option ℕ → Type 0
NotLower c None = ⊥
NotLower c (Some d) = d ≤ c

-- how many slots stand before slot c, from the one after last on
abbrev pub gap : ℕ → ℕ → ℕ
gap c last = (c + 3 - last) % 4

-- c is the chosen slot, or fewer stand before it than before the choice
abbrev pub Nearer : ℕ → ℕ → Option ℕ → Type 0
Nearer c last None = ⊥
Nearer c last (Some d) = c ≢ d → gap c d + 1 ≤ gap c last

-- r is the slot chosen among those that ask
pub record Chosen (ask : ℕ → Bool) (rotating : Bool) (last : ℕ) (r : Option ℕ) : Type 0 where
  pub value : r ≡ chosen_slot ask rotating last
  pub asks : Asking ask r
  -- under fixed priority no slot that asks is lower
  pub lowest : rotating ≡ false → (c : ℕ) → c < 4 → ask c ≡ true → NotLower c r
  -- rotating, each slot that asks is chosen or comes nearer
  pub waits : rotating ≡ true → last < 4 → (c : ℕ) → c < 4 → ask c ≡ true → Nearer c last r
