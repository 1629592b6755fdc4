-- Worked addresses: what the definitions say of a few places.
use Rattle.std.specs.Prelude.{◌≡◌, ℕ, true, false, [], ◌∷◌}
use Rattle.bus.specs.declared.place.Place.{Place}
use Rattle.bus.specs.declared.place.Addressing.TheVariants.{Bytes, Words}
use Rattle.bus.specs.Address.{course}
use Rattle.bus.specs.Plan.{plan}

-- an address and a low page, the high page being 0
abbrev pub paged : ℕ → ℕ → Place
paged a p = record { address = a; low = p; high = 0 }

-- the plans of a few places
pub record WorkedPlans : Type 0 where
  -- plain, the address register wraps and does not carry into the page
  pub wraps : plan (course Bytes false false) (paged 0xffff 0x01) 2 ≡ 0x01ffff ∷ 0x010000 ∷ []
  -- extended, it carries
  pub carries : plan (course Bytes true false) (paged 0xffff 0x01) 2 ≡ 0x01ffff ∷ 0x020000 ∷ []
  -- shifted words pass twice the address, without bit 0 of the page
  pub doubles : plan (course Words false false) (paged 0x8000 0x03) 1 ≡ 0x030000 ∷ []
  -- and wrap at the end of their 128 Kbyte page
  pub wraps_words : plan (course Words false false) (paged 0xffff 0x03) 2 ≡ 0x03fffe ∷ 0x020000 ∷ []
  -- going down, plain stays in the page and extended leaves it
  pub wraps_down : plan (course Bytes false true) (paged 0x0000 0x01) 2 ≡ 0x010000 ∷ 0x01ffff ∷ []
  pub borrows : plan (course Words true true) (paged 0x0000 0x03) 2 ≡ 0x020000 ∷ 0x01fffe ∷ []
