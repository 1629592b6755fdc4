-- Eight addresses: the least of their kinds, and bytes written there in turn.
use Rattle.std.proofs.Common.{◌≡◌, ℕ, zero, suc, ◌+◌, ◌-◌, ◌<◌, List, [], ◌∷◌, ◌++◌, length, get_or, drop, slice_index, Ok, Err, Result, sym, refl, ap, ◌∙◌, ⊎_elim, arith}
use Rattle.std.proofs.lemmas.Bool.{cases_eq}
use Rattle.std.proofs.lemmas.List.{drop_more, length-drop}
use Rattle.std.proofs.lemmas.List.Sums.{fold_push}
use Rattle.std.proofs.lemmas.Bool.Decides.{nat_tests}
use Rattle.memory.specs.declared.kinds.Kind.{Kind}
use Rattle.memory.specs.declared.kinds.Kind.TheVariants.{Absent, ReadOnly, Writable}
use Rattle.memory.specs.declared.kinds.MemoryFault.{MemoryFault}
use Rattle.memory.specs.Bytes.{write_of}
use Rattle.memory.specs.Puts.{reached, lesser, least_from, spread}
use Rattle.memory.specs.Stored.{stored}
use Rattle.memory.proofs.Views.{stored_by}
use Rattle.std.specs.Ordering.{ord_min}
use Rattle.std.specs.List.{fold, range_with_len}
use Rattle.memory.specs.contracts.kinds.KindOrd.TheImpl as order

-- of two kinds the lesser is the first in their order
pub first_is_lesser : (x y : Kind) → ord_min order.cmp-value.it x y ≡ lesser x y
first_is_lesser Absent Absent = refl
first_is_lesser Absent ReadOnly = refl
first_is_lesser Absent Writable = refl
first_is_lesser ReadOnly Absent = refl
first_is_lesser ReadOnly ReadOnly = refl
first_is_lesser ReadOnly Writable = refl
first_is_lesser Writable Absent = refl
first_is_lesser Writable ReadOnly = refl
first_is_lesser Writable Writable = refl

-- the least of the kinds at some places past an address
abbrev pub least_of : (ℕ → Kind) → ℕ → List ℕ → Kind
least_of k a offsets = fold (λ least offset. lesser least (reached k (a + offset))) Writable offsets

-- one place more
pub least_of_more : (k : ℕ → Kind) (a : ℕ) (offsets : List ℕ) (least : Kind) (offset : ℕ) (next : Kind) → least ≡ least_of k a offsets
    → next ≡ ord_min order.cmp-value.it least (reached k (a + offset)) → next ≡ least_of k a (offsets ++ offset ∷ [])
least_of_more k a offsets least offset next e f =
    rw fold_push (f ∙ first_is_lesser least (reached k (a + offset)) ∙ ap (λ x. lesser x (reached k (a + offset))) e)

-- the eight places
pub least_of_eight : (k : ℕ → Kind) (a : ℕ) → least_of k a (range_with_len 0 8) ≡ least_from k a 8
unfolding least_from
least_of_eight k a = refl

both_writable : (x y : Kind) → lesser x y ≡ Writable → (x ≡ Writable) × (y ≡ Writable)
both_writable Absent y e = let z : ◌≡◌ {A = ℕ} 0 1 = cc in absurd (omega arith)
both_writable ReadOnly Absent e = let z : ◌≡◌ {A = ℕ} 0 1 = cc in absurd (omega arith)
both_writable ReadOnly ReadOnly e = let z : ◌≡◌ {A = ℕ} 0 1 = cc in absurd (omega arith)
both_writable ReadOnly Writable e = let z : ◌≡◌ {A = ℕ} 0 1 = cc in absurd (omega arith)
both_writable Writable y e = (refl, e)

all_reached : (k : ℕ → Kind) (a n : ℕ) → least_from k a n ≡ Writable → (j : ℕ) → j < n → reached k (a + j) ≡ Writable
unfolding least_from
all_reached k a zero e j h = absurd (omega arith)
all_reached k a (suc n) e j h =
    let p : (least_from k a n ≡ Writable) × (reached k (a + n) ≡ Writable) = both_writable (least_from k a n) (reached k (a + n)) e in
    ⊎_elim (λ (z : j ≡ n). rw z p.1) (λ ne. all_reached k a n p.0 j (omega arith)) (cases_eq j n)

-- if the least of the kinds is writable, each of them is, and none is past the top
pub all_writable : (k : ℕ → Kind) (a n : ℕ) → Writable ≡ least_from k a n → (j : ℕ) → j < n → (a + j < 4294967296) × (k (a + j) ≡ Writable)
all_writable k a n e j h =
    let r : reached k (a + j) ≡ Writable = all_reached k a n (sym e) j h in
    (grind (arith, nat_tests), grind (arith, nat_tests))

-- a write there is not refused
pub not_refused : {k m : ℕ → Kind} {x : ℕ} {r : Result (Unit {0}) MemoryFault} {e : MemoryFault} → m ≡ k → k x ≡ Writable → r ≡ write_of (m x) → r ≡ Err e → ⊥
not_refused {k} {m} {x} {r} {e} same h answer was =
    let there : m x ≡ Writable = ap (λ f. f x) same ∙ h in
    let ok : r ≡ Ok tt = answer ∙ ap write_of there in
    let z : ◌≡◌ {A = ℕ} 0 1 = cc in
    omega arith

-- where something is left of a list, its end is not reached
pub left_within : (xs ys : List ℕ) (n x : ℕ) → drop n xs ≡ x ∷ ys → n < length xs
left_within xs ys n x e =
    let l : length xs - n ≡ suc (length ys) = sym (length-drop n xs) ∙ ap length e in
    omega arith

-- the first that is left of a list, and what is left after it
pub drop_next : (xs ys : List ℕ) (n x : ℕ) → drop n xs ≡ x ∷ ys → n < length xs → (slice_index xs n ≡ x) × (ys ≡ drop (n + 1) xs)
drop_next xs ys n x e h =
    let m : get_or xs n 0 ∷ drop (n + 1) xs ≡ x ∷ ys = sym (drop_more xs n 0 h) ∙ e in
    (grind (arith, nat_tests, m), cc)

-- one byte more
pub spread_more : (f : ℕ → ℕ) (a n b : ℕ) (bs : List ℕ) → slice_index bs n ≡ b → spread f a (n + 1) bs ≡ stored (spread f a n bs) (a + n) b
spread_more f a n b bs e =
    let z : a + n - a ≡ n = omega arith in
    stored_by (spread f a n bs) (spread f a (n + 1) bs) (a + n) b (grind (arith, nat_tests)) (λ x ne. grind (arith, nat_tests))
