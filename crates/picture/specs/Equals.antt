-- What waits in a bank of equal units.
use Rattle.std.specs.Prelude.{ℕ, cond, List, [], replicate, ◌==◌}
use Rattle.picture.specs.declared.equals.EqualBank.{EqualBank}

-- n equal units on one channel
abbrev pub equal_units : ℕ → ℕ → ℕ → ℕ → List ℕ
equal_units channel unit n c = cond (c == channel) (replicate n unit) []

-- what waits in a bank of equal units
abbrev pub equal_waiting : EqualBank → ℕ → List ℕ
equal_waiting b = equal_units b.channel b.unit b.left
