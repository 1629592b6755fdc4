-- Cells in a ring: reading, and one more or one fewer.
use Rattle.std.proofs.Common.{◌≡◌, ℕ, ◌+◌, ◌-◌, ◌<◌, ◌≤◌, List, [], ◌∷◌, ◌++◌, length, get_or, drop, set, sym, ap, ap₂, ◌∙◌, arith}
use Rattle.std.proofs.lemmas.List.{length-append, length-drop, length-set, length-take-le, get_or-take, get_or-drop, same_lists, drop_more}
use Rattle.std.proofs.lemmas.Grind.{common_steps}
use Rattle.std.proofs.lemmas.Bool.Decides.{nat_tests}
use Rattle.tape.specs.Rings.{wrap, ring}

module _ {X : Type 0} (s c : ℕ) (cells : List X) (hs : s ≤ length cells) (hc : c ≤ length cells) where
  pub length-ring : length (ring s c cells) ≡ c
  length-ring = length-take-le c _ (simp (length-append, length-drop) (omega arith))

  -- the k-th of them stands k places after the first, going round
  pub get_or-ring : (k : ℕ) (d : X) → k < c → get_or (ring s c cells) k d ≡ get_or cells (wrap (s + k) (length cells)) d
  get_or-ring k d h = get_or-take c _ k d h ∙ grind (arith, common_steps, nat_tests, length-drop s cells, get_or-drop s cells k d)

-- x in the place p after the last
module _ {X : Type 0} (s c : ℕ) (cells : List X) (x : X) (hs : s ≤ length cells) (p : ℕ) where
  pub push_ring : c < length cells → p ≡ wrap (s + c) (length cells) → ring s (c + 1) (set cells p x) ≡ ring s c cells ++ x ∷ []
  push_ring hc e =
      let size = length-set cells p x in
      let old = length-ring s c cells hs (omega arith) in
      let new = length-ring s (c + 1) (set cells p x) (omega arith) (omega arith) in
      same_lists _ _ (grind (arith, common_steps)) (λ k d h. grind (
        arith,
        common_steps,
        nat_tests,
        get_or-ring s c cells hs (omega arith) k d,
        get_or-ring s (c + 1) (set cells p x) (omega arith) (omega arith) k d,
      ))

-- b in the place p of the first: the rest begins one place on
module _ {X : Type 0} (s c : ℕ) (cells : List X) (b : X) (hs : s ≤ length cells) (hc : c ≤ length cells) (h : 0 < c) (p : ℕ) (e : p ≡ wrap s (length cells)) where
  rest_ring : drop 1 (ring s c cells) ≡ ring (p + 1) (c - 1) (set cells p b)
  rest_ring =
      let below : p < length cells = grind (arith, nat_tests) in
      let size = length-set cells p b in
      let old = length-ring s c cells hs hc in
      let new = length-ring (p + 1) (c - 1) (set cells p b) (omega arith) (omega arith) in
      same_lists _ _ (grind (arith, common_steps)) (λ k d lt. grind (
        arith,
        common_steps,
        nat_tests,
        get_or-ring s c cells hs hc (1 + k) d,
        get_or-ring (p + 1) (c - 1) (set cells p b) (omega arith) (omega arith) k d,
      ))

-- x, the first, in the place p, where b comes in its stead
module _ {X : Type 0} (s c : ℕ) (cells : List X) (b : X) (hs : s ≤ length cells) (hc : c ≤ length cells) (p : ℕ) (e : p ≡ wrap (s + 0) (length cells)) (x : X) (hx : x ≡ get_or cells p x) where
  pub pop_ring : 0 < c → ring s c cells ≡ x ∷ ring (p + 1) (c - 1) (set cells p b)
  pop_ring h =
      let first = get_or-ring s c cells hs hc 0 x h ∙ ap (λ i. get_or cells i x) (sym e) ∙ sym hx in
      drop_more _ 0 x (rw (length-ring s c cells hs hc) h)
      ∙ ap₂ ◌∷◌ first (rest_ring s c cells b hs hc h p (e ∙ ap (λ i. wrap i (length cells)) (omega arith)))
