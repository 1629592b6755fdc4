-- What `map` makes of an array.
use Rattle.std.proofs.Common.{◌≡◌, ℕ, zero, suc, ◌+◌, ◌<◌, ◌≤◌, List, length, map, get_or, sym, ap, ◌∙◌, subst, ⊎_elim, arith}
use Rattle.std.specs.Fn.{Called}
use Rattle.std.specs.Array.{MapsFrom, IsMapOf}
use Rattle.std.proofs.lemmas.Bool.{cases_eq}
use Rattle.std.proofs.lemmas.List.{get_or-map, length-map, same_lists}
use denote.Param.Members.{Mut}

-- a closure f that stays as it is, and makes h x of x
module _ {F A B : Type 0} (g : Mut F (A × Unit {0}) B) (h : A → B) (f : F) (makes : (x : A) (y : B) (q : F) → Called g f (x, tt) y q → (q ≡ f) × (y ≡ h x)) (xs : List A) (ys : List B) where
  made_from : (i n : ℕ) → MapsFrom g f xs ys i n → (k : ℕ) (d : A) (e : B) → i ≤ k → k < i + n → get_or ys k e ≡ h (get_or xs k d)
  made_from i zero m k d e low high = absurd (omega arith)
  made_from i (suc n) (q, x, y, is_x, is_y, call, rest) k d e low high =
      let made = makes x y q call in
      ⊎_elim
      (λ (here : k ≡ i). ap (λ j. get_or ys j e) here ∙ is_y.1 e ∙ made.1 ∙ ap h (sym (is_x.1 d)) ∙ ap (λ j. h (get_or xs j d)) (sym here))
      (λ (on : k ≡ i → ⊥).
      let P : F → Type 0 = λ p. MapsFrom g p xs ys (i + 1) n in
      made_from (i + 1) n (subst P made.0 rest) k d e (omega arith) (omega arith))
      (cases_eq k i)

  pub mapped : (d : A) → IsMapOf g f xs ys (length xs) → ys ≡ map h xs
  mapped d m =
      same_lists ys (map h xs) (m.long ∙ sym (length-map xs h)) (λ k e l.
      let below : k < length xs = omega (arith, m.long) in
      made_from 0 (length xs) m.each k d e (omega arith) (omega arith) ∙ sym (get_or-map h xs k d e below))
