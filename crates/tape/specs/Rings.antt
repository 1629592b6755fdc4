-- Cells in a ring.
use Rattle.std.specs.Prelude.{ℕ, ◌-◌, cond, List, ◌++◌, take, drop, nat_lt}

-- a place past the last of n cells goes round to the first
abbrev pub wrap : ℕ → ℕ → ℕ
wrap i n = cond (nat_lt i n) i (i - n)

-- c cells of a ring, from place s on
abbrev pub ring : {X : Type 0} → ℕ → ℕ → List X → List X
ring s c cells = take c (drop s cells ++ cells)
