-- Trailing zeros of the turned mask name the first slot that asks: tried at each of the fifteen masks and four starts.
use Rattle.std.proofs.Common.{◌≡◌, ℕ, zero, suc, ◌+◌, ◌-◌, ◌*◌, ◌/◌, ◌%◌, ◌^◌, ◌<◌, Bool, true, ◌&&◌, eqb, Some, None, Option, unwrap_or, sym, refl, ap, arith}
use lib.Bits.{bit_or, bit_and}
use lib.Count.{count_trailing_zeros}
use Rattle.std.proofs.lemmas.Bool.Decides.{Decides-eqb, Decides-below_and}
use Rattle.arbiter.specs.Slots.{asks_in, first_from}

-- the slot that the turned mask's trailing zeros name
abbrev turned_slot : ℕ → ℕ → ℕ
turned_slot m s = (count_trailing_zeros 8 (bit_and (bit_or (m / 2 ^ s) (m * 2 ^ (4 - s) % 256)) 15) + s) % 4

-- the slot that is found, or 4
abbrev found_slot : ℕ → ℕ → ℕ
found_slot m s = unwrap_or (first_from 4 (asks_in m) s) 4

-- both agree at each start below the second number
abbrev starts : ℕ → ℕ → Bool
starts m zero = true
starts m (suc s) = eqb (turned_slot (m + 1) s) (found_slot (m + 1) s) && starts m s

-- and at each mask from 1 to the number
abbrev masks : ℕ → Bool
masks zero = true
masks (suc m) = starts m 4 && masks m

agree : (m : ℕ) → m < 15 → (s : ℕ) → s < 4 → turned_slot (m + 1) s ≡ found_slot (m + 1) s
unfolding first_from count_trailing_zeros
agree =
    (Decides-below_and (λ m. starts m 4) (λ m. (s : ℕ) → s < 4 → turned_slot (m + 1) s ≡ found_slot (m + 1) s) masks
    (λ m. Decides-below_and (λ s. eqb (turned_slot (m + 1) s) (found_slot (m + 1) s)) (λ s. turned_slot (m + 1) s ≡ found_slot (m + 1) s) (starts m)
    (λ s. Decides-eqb (turned_slot (m + 1) s) (found_slot (m + 1) s)) refl (λ _. refl) 4) refl (λ _. refl) 15).0 refl

-- a slot that is found is no 4
some_of : (o : Option ℕ) (r : ℕ) → r ≡ unwrap_or o 4 → r < 4 → o ≡ Some r
some_of None r e h = absurd (omega arith)
some_of (Some d) r e h = ap Some (sym e)

pub turned_first : (m s : ℕ) → 0 < m → m < 16 → s < 4
    → first_from 4 (asks_in m) s ≡ Some ((count_trailing_zeros 8 (bit_and (bit_or (m / 2 ^ s) (m * 2 ^ (4 - s) % 256)) 15) + s) % 4)
turned_first m s i j k =
    let e : m - 1 + 1 ≡ m = omega arith in
    some_of (first_from 4 (asks_in m) s) (turned_slot m s) (rw e at (agree (m - 1) (omega arith) s k)) (omega arith)
