-- The bus address of a place, the way back, and one move, in arithmetic.
use Rattle.std.specs.Prelude.{ℕ, ◌+◌, ◌-◌, ◌*◌, ◌/◌, ◌%◌, ◌<◌, Bool, true, false, cond}
use Rattle.bus.specs.declared.place.Place.{Place}
use Rattle.bus.specs.declared.place.Course.{Course}
use Rattle.bus.specs.declared.place.Addressing.{Addressing}
use Rattle.bus.specs.declared.place.Addressing.TheVariants.{Bytes, Words}

-- the registers hold 16, 8 and 8 bits
abbrev pub Sized : Place → Type 0
Sized p = (p.address < 65536) × (p.low < 256) × (p.high < 256)

-- bytes or words, extended or not, down or up
abbrev pub course : Addressing → Bool → Bool → Course
course m e d = record { addressing = m; extended = e; decrement = d }

-- the bytes of one unit
abbrev pub unit_of : Addressing → ℕ
unit_of Bytes = 1
unit_of Words = 2

-- high page, low page, address; shifted words drop bit 0 of the low page and pass twice the address
abbrev pub address_of : Addressing → Place → ℕ
address_of Bytes p = p.high * 16777216 + p.low * 65536 + p.address
address_of Words p = p.high * 16777216 + (p.low - p.low % 2) * 65536 + 2 * p.address

-- the registers for the address x; shifted words keep bit 0 of the old low page
abbrev pub place_at : Addressing → ℕ → ℕ → Place
place_at Bytes x old = record { address = x % 65536; low = x / 65536 % 256; high = x / 16777216 % 256 }
place_at Words x old =
    record { address = x / 2 % 65536; low = x / 131072 % 128 * 2 + old % 2; high = x / 16777216 % 256 }

-- x moved by d modulo m; down by d is up by (m - 1) * d, since m * d is 0 modulo m
abbrev pub turned : ℕ → Bool → ℕ → ℕ → ℕ
turned m false x d = (x + d) % m
turned m true x d = (x + (m - 1) * d) % m

-- the same pages with another address register
abbrev pub with_address : Place → ℕ → Place
with_address p a = record { address = a; low = p.low; high = p.high }

-- plain, the address register moves by k modulo 2^16; extended, the bus address moves by k units modulo 2^32
abbrev pub place_along : Course → Place → ℕ → Place
place_along c p k =
    cond c.extended
    (place_at c.addressing (turned 4294967296 c.decrement (address_of c.addressing p) (unit_of c.addressing * k)) p.low)
    (with_address p (turned 65536 c.decrement p.address k))

-- plain, the address register moves by one modulo 2^16; extended, the bus address moves by the unit modulo 2^32
abbrev pub moved_place : Course → Place → Place
moved_place c p =
    cond c.extended
    (place_at c.addressing (turned 4294967296 c.decrement (address_of c.addressing p) (unit_of c.addressing)) p.low)
    (with_address p (turned 65536 c.decrement p.address 1))
