-- The first of a line, and the rest of it.
use Rattle.std.specs.Prelude.{List, [], ◌∷◌, Ok, Err, Result}

-- the first element; if there is none, the refusal e
abbrev pub first_or : {X E : Type 0} → E → List X → Result X E
first_or e [] = Err e
first_or e (x ∷ xs) = Ok x

-- what is left without the first
abbrev pub rest_of : {X : Type 0} → List X → List X
rest_of [] = []
rest_of (x ∷ xs) = xs
