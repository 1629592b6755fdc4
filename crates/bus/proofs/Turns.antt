-- Moves round a circle of numbers.
use Rattle.std.proofs.Common.{◌≡◌, ℕ, ◌+◌, ◌-◌, ◌*◌, ◌<◌, Bool, true, false, add-zero, add_assoc, mod-lt, mod-eq_of_lt, mul-zero, mul-add}
use native.Mathlib.Nat.{mod-add-mod}
use Rattle.bus.specs.Address.{turned}

-- two moves the same way are one move of their sum
pub turned-turned : (m : ℕ) (d : Bool) (x j k : ℕ) → turned m d (turned m d x j) k ≡ turned m d x (j + k)
turned-turned m false x j k = rw (mod-add-mod, add_assoc)
turned-turned m true x j k = rw (mod-add-mod, add_assoc, mul-add)

pub turned_zero : (m : ℕ) (d : Bool) (x : ℕ) → x < m → turned m d x 0 ≡ x
turned_zero m false x h = rw (add-zero, mod-eq_of_lt h)
turned_zero m true x h = rw (mul-zero, add-zero, mod-eq_of_lt h)

pub turned_below : (m : ℕ) (d : Bool) (x j : ℕ) → 0 < m → turned m d x j < m
turned_below m false x j h = mod-lt (x + j) h
turned_below m true x j h = mod-lt (x + (m - 1) * j) h
