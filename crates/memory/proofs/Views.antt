-- Equations between whole functions, for those who write or compose memories and banks.
use Rattle.std.proofs.Common.{◌≡◌, ℕ, eqb, sym, refl, ap, ◌∙◌, ⊎_elim}
use mathlib.Core.Path.{fun_ext}
use Rattle.std.proofs.lemmas.Bool.{cases_eq, eq-eqb, ne_eqb, cond-true, cond-false}
use Rattle.memory.specs.declared.kinds.Kind.{Kind}
use Rattle.memory.specs.Layers.{joined, holed}
use Rattle.memory.specs.Stored.{stored}

-- g is f but b at a: it is b there, and f elsewhere
pub stored_by : {X : Type 0} (f g : ℕ → X) (a : ℕ) (b : X) → g a ≡ b → ((x : ℕ) → (x ≡ a → ⊥) → g x ≡ f x) → g ≡ stored f a b
stored_by f g a b there elsewhere =
    fun_ext (λ x. ⊎_elim
    (λ (e : x ≡ a). ap g e ∙ there ∙ sym (cond-true (eqb x a) b (f x) (eq-eqb x a e)))
    (λ (ne : x ≡ a → ⊥). elsewhere x ne ∙ sym (cond-false (eqb x a) b (f x) (ne_eqb x a ne)))
    (cases_eq x a))

-- storing what stands there already changes nothing
pub stored_same : {X : Type 0} (f : ℕ → X) (a : ℕ) → f ≡ stored f a (f a)
stored_same f a = stored_by f f a (f a) refl (λ x ne. refl)

-- a join of equal parts
pub joined_by : {X : Type 0} {b b' : ℕ} {f f' g g' : ℕ → X} → b' ≡ b → f' ≡ f → g' ≡ g → joined b' f' g' ≡ joined b f g
joined_by {X} {b} {b'} {f} {f'} {g} {g'} eb ef eg =
    ap (λ n. joined n f' g') eb ∙ ap (λ h. joined b h g') ef ∙ ap (joined b f) eg

-- a hole of equal parts
pub holed_by : {b b' t t' : ℕ} {k k' : ℕ → Kind} → b' ≡ b → t' ≡ t → k' ≡ k → holed b' t' k' ≡ holed b t k
holed_by {b} {b'} {t} {t'} {k} {k'} eb et ek = ap (λ n. holed n t' k') eb ∙ ap (λ n. holed b n k') et ∙ ap (holed b t) ek
