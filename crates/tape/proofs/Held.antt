-- What a tape holds, and what a push and a pop make of it.
use Rattle.std.proofs.Common.{◌≡◌, ℕ, ◌+◌, ◌-◌, ◌<◌, List, [], ◌∷◌, ◌++◌, length, get_or, set, Ok, refl, sym, ap, ap₂, ◌∙◌, arith}
use Rattle.std.proofs.lemmas.List.{length-set, take_at}
use Rattle.tape.specs.Lines.{first_or}
use Rattle.tape.specs.Rings.{ring}
use Rattle.tape.specs.Tapes.{contents, cells_of, place_of}
use Rattle.tape.specs.declared.lines.Tape.{Tape}
use Rattle.tape.proofs.Rings.{length-ring, push_ring, pop_ring}

-- a line with a first holds one at least
pub some_first : {X E : Type 0} (xs : List X) (e : E) (x : X) → first_or e xs ≡ Ok x → 0 < length xs
some_first [] e x h = grind arith
some_first (y ∷ ys) e x h = omega arith

module _ {X : Type 0} (t : Tape X) where
  -- a tape holds as much as it counts
  pub length_contents : length (contents t) ≡ t.count
  unfolding contents
  length_contents = length-ring t.start t.count (cells_of t) t.start_within t.count_within

  -- a tape that counts nothing holds nothing
  pub contents_none : t.count ≡ 0 → contents t ≡ []
  unfolding contents
  contents_none h = ap (λ n. ring t.start n (cells_of t)) h

  -- a tape that counts all cells, from the first on, holds what stands in them
  pub contents_all : t.start ≡ 0 → t.count ≡ length (cells_of t) → contents t ≡ cells_of t
  unfolding contents
  contents_all s c = ap₂ (λ i n. ring i n (cells_of t)) s c ∙ take_at _ _ _ refl

  -- x in the place after the last comes last
  pub contents_pushed : (p : ℕ) (x : X) → t.count < length (cells_of t) → p ≡ place_of t t.count → ring t.start (t.count + 1) (set (cells_of t) p x) ≡ contents t ++ x ∷ []
  unfolding contents place_of
  contents_pushed p x h e = push_ring t.start t.count (cells_of t) x t.start_within p h e

  -- x in the first place, where b comes in its stead
  pub contents_popped : (p : ℕ) (x b : X) → 0 < t.count → p ≡ place_of t 0 → x ≡ get_or (cells_of t) p x → contents t ≡ x ∷ ring (p + 1) (t.count - 1) (set (cells_of t) p b)
  unfolding contents place_of
  contents_popped p x b h e hx = pop_ring t.start t.count (cells_of t) b t.start_within t.count_within p e x hx h

-- what the goals of a tape's functions need of these
pub ruleset tape_steps = (some_first, length_contents, contents_none, contents_all, length-set)
