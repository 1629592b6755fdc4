-- A function changed at one place.
use Rattle.std.specs.Prelude.{ℕ, cond, ◌==◌}

-- f, but b at a
abbrev pub stored : {X : Type 0} → (ℕ → X) → ℕ → X → ℕ → X
stored f a b x = cond (x == a) b (f x)
