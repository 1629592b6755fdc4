-- What a tape holds, and what its functions answer and leave.
use Rattle.std.specs.Prelude.{ℕ, ◌+◌, ◌-◌, cond, List, [], ◌∷◌, ◌++◌, length, codes, Ok, Err, Result, ◌==◌, nat_lt, slice_set}
use Rattle.tape.specs.declared.lines.Tape.{Tape}
use Rattle.tape.specs.declared.lines.TapeFault.{TapeFault}
use Rattle.tape.specs.declared.lines.TapeFault.TheVariants.{Full, Empty}
use Rattle.tape.specs.Rings.{wrap, ring}

-- 61: the tape is full; 62: it is empty
abbrev pub tape_number : TapeFault → ℕ
tape_number Full = 61
tape_number Empty = 62

-- a refusal in words
abbrev pub tape_words : TapeFault → List ℕ
tape_words Full = codes "the tape is full"
tape_words Empty = codes "the tape is empty"

-- the refusal with a number
abbrev pub tape_refusal : ℕ → TapeFault
tape_refusal n = cond (n == tape_number Full) Full Empty

-- the cells that were lent
abbrev pub cells_of : {X : Type 0} → Tape X → List X
cells_of t = t.cells.now

-- what the tape holds, the first in first
unfoldable pub contents : {X : Type 0} → Tape X → List X
contents t = ring t.start t.count (cells_of t)

-- the cells that hold nothing
unfoldable pub room : {X : Type 0} → Tape X → ℕ
room t = length (cells_of t) - length (contents t)

-- the cell of the element that so many come before
unfoldable pub place_of : {X : Type 0} → Tape X → ℕ → ℕ
place_of t k = wrap (t.start + k) (length (cells_of t))

-- a push is accepted if a cell is free, else it gets 61
abbrev pub push_of : ℕ → Result (Unit {0}) TapeFault
push_of n = cond (nat_lt 0 n) (Ok tt) (Err (tape_refusal 61))

-- x comes last, if a cell is free
abbrev pub pushed : {X : Type 0} → ℕ → List X → X → List X
pushed n xs x = cond (nat_lt 0 n) (xs ++ x ∷ []) xs

-- x in one more cell, if one is free
abbrev pub filled : {X : Type 0} → Tape X → X → List X
filled t x = cond (nat_lt 0 (room t)) (slice_set (cells_of t) (place_of t (length (contents t))) x) (cells_of t)

-- the blank b in the first element's cell, if there is one
abbrev pub freed : {X : Type 0} → Tape X → X → List X
freed t b = cond (nat_lt 0 (length (contents t))) (slice_set (cells_of t) (place_of t 0) b) (cells_of t)
