-- The bits of a mask.
use Rattle.std.proofs.Common.{◌≡◌, ℕ, zero, suc, ◌+◌, ◌*◌, ◌/◌, ◌%◌, ◌^◌, ◌<◌, Bool, true, false, cond, eqb, Some, None, sym, refl, ap, ◌∙◌, arith}
use lib.Bits.{bit_or, bit_and, and_mask, and_high, or_shifted, or_shifted_r}
use mir.Val.{bool_byte}
use Rattle.arbiter.specs.Slots.{asks_in, flag_of, mask_of, first_from, chosen_slot, start_of}
use Rattle.arbiter.proofs.Chosen.{chosen_none, chosen_same}

-- each k below 4
pub below_four : (P : ℕ → Type 0) → P 0 → P 1 → P 2 → P 3 → (k : ℕ) → k < 4 → P k
below_four P a b c d zero h = a
below_four P a b c d (suc zero) h = b
below_four P a b c d (suc (suc zero)) h = c
below_four P a b c d (suc (suc (suc zero))) h = d
below_four P a b c d (suc (suc (suc (suc k)))) h = absurd (omega arith)

-- bits above the fourth do not matter
pub low_bits : (m k : ℕ) → k < 4 → asks_in (m % 16) k ≡ asks_in m k
low_bits m k h =
    ap (λ x. eqb x 1)
    (below_four (λ k. m % 16 / 2 ^ k % 2 ≡ m / 2 ^ k % 2) (omega arith) (omega arith) (omega arith) (omega arith) k h)

no_bits : (k : ℕ) → k < 4 → asks_in 0 k ≡ false
no_bits = below_four (λ k. asks_in 0 k ≡ false) refl refl refl refl

-- four bits in their places
pub or_bits : (a b c d : ℕ) → a < 2 → b < 2 → c < 2 → d < 2
    → bit_or (bit_or (bit_or a (b * 2 % 256)) (c * 4 % 256)) (d * 8 % 256) ≡ a + 2 * b + 4 * c + 8 * d
or_bits a b c d i j k l =
    let y : b * 2 % 256 ≡ b * 2 = omega arith in
    let z : c * 4 % 256 ≡ c * 4 = omega arith in
    let w : d * 8 % 256 ≡ d * 8 = omega arith in
    let m : b * 2 + a < 4 = omega arith in
    let n : c * 4 + (b * 2 + a) < 8 = omega arith in
    rw (y, z, w, or_shifted_r b 1 a i, or_shifted_r c 2 (b * 2 + a) m, or_shifted_r d 3 (c * 4 + (b * 2 + a)) n) (omega arith)

bit_small : (b : Bool) → bool_byte b < 2
bit_small true = omega arith
bit_small false = omega arith

-- the lowest bit, below the others
bit_at : (b : Bool) (q n : ℕ) → n ≡ bool_byte b + 2 * q → eqb (n % 2) 1 ≡ b
bit_at true q n e = let m : n % 2 ≡ 1 = omega arith in rw m
bit_at false q n e = let m : n % 2 ≡ 0 = omega arith in rw m

-- a flag's bit in the mask
pub bits_of_mask : (a b c d : Bool) (k : ℕ) → k < 4 → asks_in (mask_of a b c d) k ≡ flag_of a b c d k
bits_of_mask a b c d =
    let i = bit_small a in
    let j = bit_small b in
    let k = bit_small c in
    below_four (λ k. asks_in (mask_of a b c d) k ≡ flag_of a b c d k)
    (bit_at a (bool_byte b + 2 * bool_byte c + 4 * bool_byte d) _ (omega arith))
    (bit_at b (bool_byte c + 2 * bool_byte d) _ (omega arith))
    (bit_at c (bool_byte d) _ (omega arith))
    (bit_at d 0 _ (omega arith))

-- the mask without its higher bits chooses as the mask does
pub masked_none : (m : ℕ) (rotating : Bool) (last : ℕ) → bit_and m 15 ≡ 0 → None ≡ chosen_slot (asks_in m) rotating last
masked_none m rotating last z =
    sym (chosen_none (asks_in m) rotating last (λ k h. sym (low_bits m k h) ∙ ap (λ n. asks_in n k) (sym (and_mask m 4) ∙ z) ∙ no_bits k h))

pub masked_some : (m : ℕ) (rotating : Bool) (last s r : ℕ) → s ≡ start_of rotating last → first_from 4 (asks_in (bit_and m 15)) s ≡ Some r
    → Some r ≡ chosen_slot (asks_in m) rotating last
masked_some m rotating last s r e f =
    sym f ∙ ap (first_from 4 (asks_in (bit_and m 15))) e
    ∙ chosen_same (asks_in (bit_and m 15)) (asks_in m) (λ k h. ap (λ n. asks_in n k) (and_mask m 4) ∙ low_bits m k h) rotating last

-- the mask of the second group with bit 0 replaced
pub bit_zero_put : (m : ℕ) (b : Bool) (k : ℕ) → k < 4 → asks_in (bit_or (bit_and m 14) (bool_byte b)) k ≡ cond (eqb k 0) b (asks_in m k)
bit_zero_put m b k h =
    let i = bit_small b in
    let e : bit_or (bit_and m 14) (bool_byte b) ≡ m / 2 % 8 * 2 + bool_byte b = rw (and_high m 3 1, or_shifted (m / 2 % 8) 1 (bool_byte b) i) in
    let same : (j n : ℕ) → j % 2 ≡ n % 2 → eqb (j % 2) 1 ≡ eqb (n % 2) 1 = λ j n q. ap (λ x. eqb x 1) q in
    rw e (below_four (λ k. asks_in (m / 2 % 8 * 2 + bool_byte b) k ≡ cond (eqb k 0) b (asks_in m k))
    (bit_at b (m / 2 % 8) _ (omega arith))
    (same _ (m / 2) (omega arith)) (same _ (m / 4) (omega arith)) (same _ (m / 8) (omega arith)) k h)
