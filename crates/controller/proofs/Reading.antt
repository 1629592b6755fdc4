-- How far the bytes of a word are read.
use Rattle.std.proofs.Common.{◌≡◌, ℕ, zero, suc, ◌+◌, ◌*◌, ◌<◌, Bool, true, false, List, [], ◌∷◌, ◌++◌, Ok, Err, refl, ◌∙◌, arith, take, drop, map, get_or, slice_set, slice_index}
use Rattle.memory.specs.declared.kinds.Kind.{Kind}
use Rattle.memory.specs.Bytes.{is_absent}
use Rattle.controller.specs.declared.fault.Fault.{Fault}
use Rattle.controller.specs.Carrying.{above}
use Rattle.controller.specs.Faults.{fault_of}
use Rattle.controller.specs.Fetching.{four, after_word, first_absent, fetched_byte, fetched_word}

-- i bytes of the word at a are read, and the next one stands at p
pub record Reading (k : ℕ → Kind) (f : ℕ → ℕ) (a i p : ℕ) (bs : List ℕ) : Type 0 where
  pub place : p ≡ get_or (four a ++ after_word a ∷ []) i 0
  pub bytes : bs ≡ map f (take i (four a)) ++ drop i (0 ∷ 0 ∷ 0 ∷ 0 ∷ [])
  pub present : first_absent k (four a) ≡ first_absent k (drop i (four a))

-- a byte that is read is present
byte_read : (k : ℕ → Kind) (f : ℕ → ℕ) (c p x : ℕ) (q : Bool) → is_absent (k p) ≡ q → fetched_byte k f c p ≡ Ok x → (is_absent (k p) ≡ false) × (x ≡ f p)
byte_read k f c p x true e h = let z = rw e at h in cc
byte_read k f c p x false e h = let z = rw e at h in (e, cc)

-- one that is not is absent
byte_stops : (k : ℕ → Kind) (f : ℕ → ℕ) (c p : ℕ) (e : Fault) (q : Bool) → is_absent (k p) ≡ q → fetched_byte k f c p ≡ Err e → (is_absent (k p) ≡ true) × (e ≡ fault_of 41 c p)
byte_stops k f c p e true i h = let z = rw i at h in (i, cc)
byte_stops k f c p e false i h = let z = rw i at h in cc

-- one byte more
pub reads : (k : ℕ → Kind) (f : ℕ → ℕ) (c a i p x : ℕ) (bs : List ℕ) → i < 4 → Reading k f a i p bs → fetched_byte k f c p ≡ Ok x
    → Reading k f a (i + 1) (above p) (slice_set bs i x)
reads k f c a zero p x bs h r e = let b = byte_read k f c p x _ refl e in let q = rw r.place at b.0 in
    record { place = rw r.place refl; bytes = rw (r.bytes, b.1, r.place) refl; present = r.present ∙ rw q refl }
reads k f c a (suc zero) p x bs h r e = let b = byte_read k f c p x _ refl e in let q = rw r.place at b.0 in
    record { place = rw r.place refl; bytes = rw (r.bytes, b.1, r.place) refl; present = r.present ∙ rw q refl }
reads k f c a (suc (suc zero)) p x bs h r e = let b = byte_read k f c p x _ refl e in let q = rw r.place at b.0 in
    record { place = rw r.place refl; bytes = rw (r.bytes, b.1, r.place) refl; present = r.present ∙ rw q refl }
reads k f c a (suc (suc (suc zero))) p x bs h r e = let b = byte_read k f c p x _ refl e in let q = rw r.place at b.0 in
    record { place = rw r.place refl; bytes = rw (r.bytes, b.1, r.place) refl; present = r.present ∙ rw q refl }
reads k f c a (suc (suc (suc (suc i)))) p x bs h r e = absurd (omega arith)

-- the first byte that is not
pub stops : (k : ℕ → Kind) (f : ℕ → ℕ) (c a i p : ℕ) (bs : List ℕ) (e : Fault) → i < 4 → Reading k f a i p bs → fetched_byte k f c p ≡ Err e
    → fetched_word k f c a ≡ Err e
unfolding fetched_word
stops k f c a zero p bs e h r s = let b = byte_stops k f c p e _ refl s in let q = rw r.place at b.0 in rw (r.present, q, b.1, r.place) refl
stops k f c a (suc zero) p bs e h r s = let b = byte_stops k f c p e _ refl s in let q = rw r.place at b.0 in rw (r.present, q, b.1, r.place) refl
stops k f c a (suc (suc zero)) p bs e h r s = let b = byte_stops k f c p e _ refl s in let q = rw r.place at b.0 in rw (r.present, q, b.1, r.place) refl
stops k f c a (suc (suc (suc zero))) p bs e h r s = let b = byte_stops k f c p e _ refl s in let q = rw r.place at b.0 in rw (r.present, q, b.1, r.place) refl
stops k f c a (suc (suc (suc (suc i)))) p bs e h r s = absurd (omega arith)

-- a whole word
pub whole : (k : ℕ → Kind) (f : ℕ → ℕ) (c a i p v : ℕ) (bs : List ℕ) → i ≡ 4 → Reading k f a i p bs
    → v ≡ slice_index bs 0 + slice_index bs 1 * 256 + slice_index bs 2 * 65536 + slice_index bs 3 * 16777216
    → ◌≡◌ {A = _} (Ok (record { value = v; next = p })) (fetched_word k f c a)
unfolding fetched_word
whole k f c a i p v bs h r e = let s = rw h at r in rw (s.present, e, s.bytes, s.place) refl
