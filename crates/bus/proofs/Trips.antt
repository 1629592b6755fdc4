-- From the registers to the bus address and back, nothing is lost.
use Rattle.std.proofs.Common.{◌≡◌, ℕ, ◌+◌, ◌-◌, ◌*◌, ◌/◌, ◌%◌, ◌<◌, arith}
use Rattle.std.proofs.lemmas.Nat.{shr-shr}
use Rattle.bus.specs.declared.place.Place.{Place}
use Rattle.bus.specs.declared.place.Addressing.{Addressing}
use Rattle.bus.specs.declared.place.Addressing.TheVariants.{Bytes, Words}
use Rattle.bus.specs.Address.{Sized, address_of, place_at, unit_of}

-- an address of whole units comes back
pub address_of_place : (m : Addressing) (x old : ℕ) → x < 4294967296 → x % unit_of m ≡ 0 → address_of m (place_at m x old) ≡ x
address_of_place Bytes x old h e = omega (arith, shr-shr x 16 8)
address_of_place Words x old h e =
    let q = x / 131072 % 128 in
    let l : q * 2 + old % 2 - (q * 2 + old % 2) % 2 ≡ q * 2 = omega arith in
    let t : x / 16777216 % 256 ≡ x / 16777216 = omega arith in
    let m : q + 128 * (x / 16777216) ≡ x / 131072 = omega (arith, shr-shr x 17 7) in
    let b : x / 2 % 65536 + 65536 * (x / 131072) ≡ x / 2 = omega (arith, shr-shr x 1 16) in
    rw (l, t) (omega arith)

pub address_back : (m : Addressing) (x old : ℕ) (p : Place) → p ≡ place_at m x old → x < 4294967296 → x % unit_of m ≡ 0 → address_of m p ≡ x
address_back m x old p e h u = rw e (address_of_place m x old h u)

-- so do the registers, bit 0 of a shifted low page included
pub place_of_address : (m : Addressing) (p : Place) → Sized p → place_at m (address_of m p) p.low ≡ p
place_of_address Bytes p s =
    let q : address_of Bytes p / 65536 ≡ p.high * 256 + p.low = omega arith in
    let t : address_of Bytes p / 16777216 ≡ p.high = omega arith in
    let a : address_of Bytes p % 65536 ≡ p.address = omega arith in
    let l : address_of Bytes p / 65536 % 256 ≡ p.low = rw q (omega arith) in
    let h : address_of Bytes p / 16777216 % 256 ≡ p.high = rw t (omega arith) in
    rw (a, l, h)
place_of_address Words p s =
    let w : address_of Words p / 2 ≡ (p.high * 128 + p.low / 2) * 65536 + p.address = omega arith in
    let q : address_of Words p / 131072 ≡ p.high * 128 + p.low / 2 = omega arith in
    let t : address_of Words p / 16777216 ≡ p.high = omega arith in
    let a : address_of Words p / 2 % 65536 ≡ p.address = rw w (omega arith) in
    let l : address_of Words p / 131072 % 128 * 2 + p.low % 2 ≡ p.low = rw q (omega arith) in
    let h : address_of Words p / 16777216 % 256 ≡ p.high = rw t (omega arith) in
    rw (a, l, h)

-- the address of a place fits the bus, and the registers of an address their widths
pub address_fits : (m : Addressing) (p : Place) → Sized p → address_of m p < 4294967296
address_fits Bytes p s = omega arith
address_fits Words p s = omega arith

pub place_sized : (m : Addressing) (x old : ℕ) → Sized (place_at m x old)
place_sized Bytes x old = (omega arith, omega arith, omega arith)
place_sized Words x old = (omega arith, omega arith, omega arith)
