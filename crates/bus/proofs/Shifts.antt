-- Shifts and masks between the registers and the bus address, as arithmetic.
use Rattle.std.proofs.Common.{◌≡◌, ℕ, ◌+◌, ◌-◌, ◌*◌, ◌/◌, ◌%◌, ◌<◌, arith}
use Rattle.std.proofs.lemmas.Nat.{shr-shr}
use Rattle.bus.specs.declared.place.Place.{Place}
use Rattle.bus.specs.declared.place.Addressing.{Addressing}
use Rattle.bus.specs.declared.place.Addressing.TheVariants.{Bytes, Words}
use Rattle.bus.specs.Address.{place_at}
use lib.Bits.{bit_and, bit_or, and_mask, and_high, or_shifted}

-- both pages as one number of 16 bits
pub or_pages : (h p : ℕ) → h < 256 → p < 256 → bit_or (h * 256 % 4294967296) p ≡ h * 256 + p
or_pages h p i j = let e : h * 256 % 4294967296 ≡ h * 256 = omega arith in rw (e, or_shifted h 8 p j)

pub or_bytes : (h p a : ℕ) → h < 256 → p < 256 → a < 65536
    → bit_or ((h * 256 + p) * 65536 % 4294967296) a ≡ h * 16777216 + p * 65536 + a
or_bytes h p a i j k =
    let e : (h * 256 + p) * 65536 % 4294967296 ≡ (h * 256 + p) * 65536 = omega arith in
    rw (e, or_shifted (h * 256 + p) 16 a k) (omega arith)

pub or_words : (h p a : ℕ) → h < 256 → p < 256 → a < 65536
    → bit_or (bit_and (h * 256 + p) 65534 * 65536 % 4294967296) (a * 2 % 4294967296)
    ≡ h * 16777216 + (p - p % 2) * 65536 + 2 * a
or_words h p a i j k =
    let m = and_high (h * 256 + p) 15 1 in
    let e : bit_and (h * 256 + p) 65534 * 65536 % 4294967296 ≡ (h * 128 + p / 2) * 131072 = omega arith in
    let f : a * 2 % 4294967296 ≡ a * 2 = omega arith in
    let l : a * 2 < 131072 = omega arith in
    rw (e, f, or_shifted (h * 128 + p / 2) 17 (a * 2) l) (omega arith)

-- the registers of an address, read off its bits
pub at_bytes : (m : Addressing) (x old : ℕ) → m ≡ Bytes → x < 4294967296
    → ◌≡◌ {A = Place} record { address = bit_and x 65535; low = bit_and (x / 65536) 255; high = x / 65536 / 256 } (place_at m x old)
at_bytes m x old e i =
    let h : x / 65536 / 256 ≡ x / 16777216 % 256 = omega (arith, shr-shr x 16 8) in
    rw (e, and_mask x 16, and_mask (x / 65536) 8, h)

pub at_words : (m : Addressing) (x old : ℕ) → m ≡ Words → x < 4294967296
    → ◌≡◌ {A = Place}
    record { address = bit_and (x / 2) 65535; low = bit_or (bit_and (x / 65536) 254) (bit_and old 1); high = x / 65536 / 256 }
    (place_at m x old)
at_words m x old e i =
    let h : x / 65536 / 256 ≡ x / 16777216 % 256 = omega (arith, shr-shr x 16 8) in
    let l : old % 2 < 2 = omega arith in
    rw (e, and_mask (x / 2) 16, and_high (x / 65536) 7 1, and_mask old 1, or_shifted (x / 65536 / 2 % 128) 1 (old % 2) l, shr-shr x 16 1, h)
