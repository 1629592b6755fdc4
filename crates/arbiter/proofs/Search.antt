-- What the search for the first slot that asks comes to.
use Rattle.std.proofs.Common.{◌≡◌, ℕ, zero, suc, ◌+◌, ◌%◌, ◌<◌, Bool, true, false, cond, Some, None, Option, refl, ap, ◌∙◌, arith}
use Rattle.arbiter.specs.Slots.{first_from}

-- none of the n slots from k on asks, or the found one does and none before it
abbrev pub First : (ℕ → Bool) → ℕ → ℕ → Option ℕ → Type 0
First ask k n None = (i : ℕ) → i < n → ask ((k + i) % 4) ≡ false
First ask k n (Some d) =
    (j : ℕ) × (j < n) × (d ≡ (k + j) % 4) × (ask d ≡ true) × ((i : ℕ) → i < j → ask ((k + i) % 4) ≡ false)

module _ (ask : ℕ → Bool) where
  -- one slot further on, the places count from one more
  later : (k j : ℕ) → ask (k % 4) ≡ false → ((i : ℕ) → i < j → ask ((k + 1 + i) % 4) ≡ false)
      → (i : ℕ) → i < j + 1 → ask ((k + i) % 4) ≡ false
  later k j e h zero l = let z : (k + 0) % 4 ≡ k % 4 = omega arith in ap ask z ∙ e
  later k j e h (suc i) l = let z : (k + suc i) % 4 ≡ (k + 1 + i) % 4 = omega arith in ap ask z ∙ h i (omega arith)

  after : (n k : ℕ) (o : Option ℕ) → ask (k % 4) ≡ false → First ask (k + 1) n o → First ask k (suc n) o
  after n k None e f = λ i l. later k n e f i (omega arith)
  after n k (Some d) e f =
      let z : (k + 1 + f.0) % 4 ≡ (k + (f.0 + 1)) % 4 = omega arith in
      (f.0 + 1, omega (arith, f.1), f.2 ∙ z, f.3, later k f.0 e f.4)

  at_once : (n k : ℕ) (b : Bool) → ask (k % 4) ≡ b → First ask (k + 1) n (first_from n ask (k + 1))
      → First ask k (suc n) (cond b (Some (k % 4)) (first_from n ask (k + 1)))
  at_once n k true e f = (0, omega arith, omega arith, e, λ i l. absurd (omega arith))
  at_once n k false e f = after n k (first_from n ask (k + 1)) e f

  pub first : (n k : ℕ) → First ask k n (first_from n ask k)
  unfolding first_from
  first zero k = λ i l. absurd (omega arith)
  first (suc n) k = at_once n k (ask (k % 4)) refl (first n (k + 1))

-- the search looks at the four slots alone
pub first_same : (f g : ℕ → Bool) → ((k : ℕ) → k < 4 → f k ≡ g k) → (n k : ℕ) → first_from n f k ≡ first_from n g k
unfolding first_from
first_same f g h zero k = refl
first_same f g h (suc n) k =
    let e : f (k % 4) ≡ g (k % 4) = h (k % 4) (omega arith) in
    rw (e, first_same f g h n (k + 1))

-- where nobody asks, nobody is found
pub first_none : (ask : ℕ → Bool) → ((k : ℕ) → k < 4 → ask k ≡ false) → (n k : ℕ) → first_from n ask k ≡ None
unfolding first_from
first_none ask h zero k = refl
first_none ask h (suc n) k =
    let e : ask (k % 4) ≡ false = h (k % 4) (omega arith) in
    rw (e, first_none ask h n (k + 1))
