-- A list's entries depend on the bytes of its table alone.
use Rattle.std.proofs.Common.{◌≡◌, ℕ, zero, suc, ◌*◌, Bool, true, false, cond, eqb, ◌⊎◌, List, [], ◌∷◌, length, Some, None, Ok, Err, Option, sym, refl, ap, ◌∙◌, subst, ap₂, inl, inr, arith}
use Rattle.memory.specs.declared.kinds.Kind.{Kind}
use Rattle.controller.specs.declared.fault.Fault.{Fault}
use Rattle.controller.specs.declared.fetching.Fetched.{Fetched as Entry}
use Rattle.controller.specs.Outside.{Outside}
use Rattle.controller.specs.Faults.{fault_of}
use Rattle.controller.specs.Fetching.{four, after_word, first_absent, word_of, fetched_word, entry_of, entry_at}
use Rattle.runs.specs.Words.{entries_from, places}
use Rattle.runs.specs.Law.{Spared, last_stored}

-- two byte functions agree on some places
abbrev pub Agree : (ℕ → ℕ) → (ℕ → ℕ) → List ℕ → Type 0
Agree f g [] = Unit {0}
Agree f g (y ∷ ys) = (f y ≡ g y) × Agree f g ys

-- a byte that no write reaches is as it was
unstored : (y old : ℕ) (ws : List (ℕ × ℕ)) (q : Bool) (w : ℕ × ℕ) → eqb y w.0 ≡ q → (y ≡ w.0 → ⊥) → cond q w.1 old ≡ old
unstored y old ws true w e n = absurd (n (grind arith))
unstored y old ws false w e n = refl

-- writes that spare the places leave their bytes
abbrev Missed : ℕ → List (ℕ × ℕ) → Type 0
Missed y [] = Unit {0}
Missed y (w ∷ ws) = (y ≡ w.0 → ⊥) × Missed y ws

missed_stays : (y old : ℕ) (ws : List (ℕ × ℕ)) → Missed y ws → last_stored y old ws ≡ old
missed_stays y old [] h = refl
missed_stays y old (w ∷ ws) h =
    ap (λ b. last_stored y b ws) (unstored y old ws (eqb y w.0) w refl h.0) ∙ missed_stays y old ws h.1

spared_head : (y : ℕ) (ys : List ℕ) (ws : List (ℕ × ℕ)) → Spared (y ∷ ys) ws → Missed y ws
spared_head y ys [] h = tt
spared_head y ys (w ∷ ws) h = (h.0.0, spared_head y ys ws h.1)

pub spared_tail : (y : ℕ) (ys : List ℕ) (ws : List (ℕ × ℕ)) → Spared (y ∷ ys) ws → Spared ys ws
spared_tail y ys [] h = tt
spared_tail y ys (w ∷ ws) h = (h.0.1, spared_tail y ys ws h.1)

pub spared_agree : (f g : ℕ → ℕ) (ws : List (ℕ × ℕ)) (ys : List ℕ) → ((x : ℕ) → g x ≡ last_stored x (f x) ws) → Spared ys ws → Agree f g ys
spared_agree f g ws [] e h = tt
spared_agree f g ws (y ∷ ys) e h =
    (sym (e y ∙ missed_stays y (f y) ws (spared_head y ys ws h)), spared_agree f g ws ys e (spared_tail y ys ws h))

-- the place after an entry
abbrev pub after_entry : ℕ → ℕ
after_entry a = after_word (after_word a)

-- the entry that the bytes at a make
abbrev pub entry_in : (ℕ → ℕ) → ℕ → Entry
entry_in f a = entry_of (word_of f a) (word_of f (after_word a)) (after_entry a)

-- all eight bytes of an entry are present
abbrev pub Readable : (ℕ → Kind) → ℕ → Type 0
Readable k a = (first_absent k (four a) ≡ None) × (first_absent k (four (after_word a)) ≡ None)

entry_read : (k : ℕ → Kind) (f : ℕ → ℕ) (c a : ℕ) → Readable k a → entry_at k f c a ≡ Ok (entry_in f a)
unfolding fetched_word
entry_read k f c a r = rw (r.0, r.1)

-- an entry is readable, or refused whatever the bytes are
readable_or : (k : ℕ → Kind) (a : ℕ) (o p : Option ℕ) → first_absent k (four a) ≡ o → first_absent k (four (after_word a)) ≡ p
    → Readable k a ⊎ ((f : ℕ → ℕ) (c : ℕ) → (e : Fault) × (entry_at k f c a ≡ Err e))
unfolding fetched_word
readable_or k a None None h j = inl (h, j)
readable_or k a None (Some y) h j = inr (λ f c. (fault_of 41 c y, rw (h, j)))
readable_or k a (Some y) p h j = inr (λ f c. (fault_of 41 c y, rw h))

pub readable : (k : ℕ → Kind) (a : ℕ) → Readable k a ⊎ ((f : ℕ → ℕ) (c : ℕ) → (e : Fault) × (entry_at k f c a ≡ Err e))
readable k a = readable_or k a _ _ refl refl

-- an entry that was fetched is what its bytes make
pub fetched_is : (k : ℕ → Kind) (f : ℕ → ℕ) (c a : ℕ) (x : Entry) → entry_at k f c a ≡ Ok x → Readable k a × (x ≡ entry_in f a)
fetched_is k f c a x e = go (readable k a)
  where
    go : Readable k a ⊎ ((f : ℕ → ℕ) (c : ℕ) → (e : Fault) × (entry_at k f c a ≡ Err e)) → Readable k a × (x ≡ entry_in f a)
    go (inl r) = let z : Ok x ≡ Ok (entry_in f a) = sym e ∙ entry_read k f c a r in (r, cc)
    go (inr h) = let z : Ok x ≡ Err (h f c).0 = sym e ∙ (h f c).1 in let n : ◌≡◌ {A = ℕ} 0 1 = cc in absurd (omega arith)

-- the entries from a readable one on, and from one that is not
pub entries_more : (n : ℕ) (o : Outside) (a : ℕ) → Readable o.kinds a
    → entries_from (suc n) o a ≡ cond (entry_in o.bytes a).last (entry_in o.bytes a ∷ []) (entry_in o.bytes a ∷ entries_from n o (after_entry a))
unfolding entries_from
entries_more n o a r = rw (entry_read o.kinds o.bytes 0 a r)

entries_none : (n : ℕ) (o : Outside) (a : ℕ) → ((f : ℕ → ℕ) (c : ℕ) → (e : Fault) × (entry_at o.kinds f c a ≡ Err e)) → entries_from (suc n) o a ≡ []
unfolding entries_from
entries_none n o a h = rw (h o.bytes 0).1

-- the eight bytes of an entry, then the places after it
pub eight_more : (m : ℕ) → 8 * suc m ≡ suc (suc (suc (suc (suc (suc (suc (suc (8 * m))))))))
eight_more m = omega arith

entry_same : (f g : ℕ → ℕ) (a n : ℕ) → Agree f g (places (suc (suc (suc (suc (suc (suc (suc (suc n)))))))) a) → entry_in g a ≡ entry_in f a
entry_same f g a n h =
    let e₀ = h.0 in let e₁ = h.1.0 in let e₂ = h.1.1.0 in let e₃ = h.1.1.1.0 in
    let t = h.1.1.1.1 in
    let e₄ = t.0 in let e₅ = t.1.0 in let e₆ = t.1.1.0 in let e₇ = t.1.1.1.0 in
    let x : word_of g a ≡ word_of f a = omega arith in
    let y : word_of g (after_word a) ≡ word_of f (after_word a) = omega arith in
    ap₂ (λ u v. entry_of u v (after_entry a)) x y

-- how many places the table of an entry and what follows it has
more-places : (q : Bool) (x : Entry) (rest : List Entry) → 8 * length (cond q (x ∷ []) (x ∷ rest)) ≡ suc (suc (suc (suc (suc (suc (suc (suc (8 * cond q 0 (length rest)))))))))
more-places true x rest = refl
more-places false x rest = eight_more (length rest)

rest_same : (q : Bool) (x : Entry) (us vs : List Entry) → (q ≡ false → us ≡ vs) → cond q (x ∷ []) (x ∷ us) ≡ cond q (x ∷ []) (x ∷ vs)
rest_same true x us vs h = refl
rest_same false x us vs h = ap (λ l. x ∷ l) (h refl)

same_from : (n : ℕ) (o p : Outside) (a : ℕ) → p.kinds ≡ o.kinds → Readable o.kinds a
    → Agree o.bytes p.bytes (places (8 * length (entries_from (suc n) o a)) a)
    → (Agree o.bytes p.bytes (places (8 * length (entries_from n o (after_entry a))) (after_entry a)) → entries_from n p (after_entry a) ≡ entries_from n o (after_entry a))
    → entries_from (suc n) p a ≡ entries_from (suc n) o a
same_from n o p a ks r agree rest =
    entries_more n p a there
    ∙ ap (λ (x : Entry). cond x.last (x ∷ []) (x ∷ entries_from n p (after_entry a))) same
    ∙ rest_same (entry_in o.bytes a).last (entry_in o.bytes a) (entries_from n p (after_entry a)) (entries_from n o (after_entry a)) on
    ∙ sym (entries_more n o a r)
  where
    there : Readable p.kinds a
    there = (let P : (ℕ → Kind) → Type 0 = λ k. Readable k a in subst P (sym ks) r)

    here : Agree o.bytes p.bytes (places (8 * length (cond (entry_in o.bytes a).last (entry_in o.bytes a ∷ []) (entry_in o.bytes a ∷ entries_from n o (after_entry a)))) a)
    here = (let P : List Entry → Type 0 = λ es. Agree o.bytes p.bytes (places (8 * length es) a) in subst P (entries_more n o a r) agree)

    eight : Agree o.bytes p.bytes (places (suc (suc (suc (suc (suc (suc (suc (suc (8 * cond (entry_in o.bytes a).last 0 (length (entries_from n o (after_entry a)))))))))))) a)
    eight = (let P : ℕ → Type 0 = λ m. Agree o.bytes p.bytes (places m a) in subst P (more-places (entry_in o.bytes a).last (entry_in o.bytes a) (entries_from n o (after_entry a))) here)

    same : entry_in p.bytes a ≡ entry_in o.bytes a
    same = entry_same o.bytes p.bytes a _ eight

    on : (entry_in o.bytes a).last ≡ false → entries_from n p (after_entry a) ≡ entries_from n o (after_entry a)
    on q = rest (let P : Bool → Type 0 = λ b. Agree o.bytes p.bytes (places (8 * cond b 0 (length (entries_from n o (after_entry a)))) (after_entry a)) in
        subst P q eight.1.1.1.1.1.1.1.1)

by_reading : (n : ℕ) (o p : Outside) (a : ℕ) → p.kinds ≡ o.kinds → Agree o.bytes p.bytes (places (8 * length (entries_from (suc n) o a)) a)
    → Readable o.kinds a ⊎ ((f : ℕ → ℕ) (c : ℕ) → (e : Fault) × (entry_at o.kinds f c a ≡ Err e))
    → (Agree o.bytes p.bytes (places (8 * length (entries_from n o (after_entry a))) (after_entry a)) → entries_from n p (after_entry a) ≡ entries_from n o (after_entry a))
    → entries_from (suc n) p a ≡ entries_from (suc n) o a
by_reading n o p a ks agree (inl r) rest = same_from n o p a ks r agree rest
by_reading n o p a ks agree (inr h) rest =
    let P : (ℕ → Kind) → Type 0 = λ k. (f : ℕ → ℕ) (c : ℕ) → (e : Fault) × (entry_at k f c a ≡ Err e) in
    entries_none n p a (subst P (sym ks) h) ∙ sym (entries_none n o a h)

pub same_entries : (n : ℕ) (o p : Outside) (a : ℕ) → p.kinds ≡ o.kinds → Agree o.bytes p.bytes (places (8 * length (entries_from n o a)) a) → entries_from n p a ≡ entries_from n o a
unfolding entries_from
same_entries zero o p a ks agree = refl
same_entries (suc n) o p a ks agree = by_reading n o p a ks agree (readable o.kinds a) (same_entries n o p (after_entry a) ks)
