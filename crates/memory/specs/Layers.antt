-- What a join and a hole make of the memories below them.
use Rattle.std.specs.Prelude.{ℕ, cond, ◌&&◌, nat_le, nat_lt}
use Rattle.memory.specs.declared.kinds.Kind.{Kind}
use Rattle.memory.specs.declared.kinds.Kind.TheVariants.{Absent}

-- below the boundary the first, from it up the second, at the same address
abbrev pub joined : {X : Type 0} → ℕ → (ℕ → X) → (ℕ → X) → ℕ → X
joined boundary f g x = cond (nat_lt x boundary) (f x) (g x)

-- absent from bottom to top, both included, else as below
abbrev pub holed : ℕ → ℕ → (ℕ → Kind) → ℕ → Kind
holed bottom top k x = cond (nat_le bottom x && nat_le x top) Absent (k x)
