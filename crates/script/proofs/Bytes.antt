-- Bytes are those of the number that they say, the lowest first.
use Rattle.std.proofs.Common.{◌≡◌, ℕ, zero, suc, ◌+◌, ◌*◌, ◌<◌, List, [], ◌∷◌, get_or, refl, arith}
use Rattle.std.proofs.lemmas.Nat.{le_bytes_2, le_bytes_4}
use Rattle.script.specs.Commands.{two, four}

-- A byte before small bytes.
small : (a : ℕ) (bs : List ℕ) → a < 256 → ((i : ℕ) → get_or bs i 0 < 256) → (i : ℕ) → get_or (a ∷ bs) i 0 < 256
small a bs ha hbs zero = ha
small a bs ha hbs (suc i) = hbs i

module _ (a b : ℕ) (ha : a < 256) (hb : b < 256) where
  both : (i : ℕ) → get_or (a ∷ b ∷ []) i 0 < 256
  both = small a (b ∷ []) ha (small b [] hb (λ i. omega arith))

  pub two_bytes : (n : ℕ) → n ≡ a + b * 256 → two n ≡ a ∷ b ∷ []
  two_bytes n is = le_bytes_2 (a ∷ b ∷ []) n refl both is

module _ (a b c d : ℕ) (ha : a < 256) (hb : b < 256) (hc : c < 256) (hd : d < 256) where
  pub four_bytes : (n : ℕ) → n ≡ a + b * 256 + c * 65536 + d * 16777216 → four n ≡ a ∷ b ∷ c ∷ d ∷ []
  four_bytes n is = le_bytes_4 (a ∷ b ∷ c ∷ d ∷ []) n refl (small a (b ∷ c ∷ d ∷ []) ha (small b (c ∷ d ∷ []) hb (both c d hc hd))) is
