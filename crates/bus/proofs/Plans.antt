-- The law of plans: a transfer passes the plan's first address and leaves the plan of the moved registers.
use Rattle.std.proofs.Common.{◌≡◌, ℕ, zero, suc, ◌+◌, ◌*◌, ◌%◌, ◌<◌, Bool, true, false, ◌∷◌, map, length, get_or, refl, ap, ◌∙◌, ap₂, add_comm, mul-zero, mul-one, mul-add, arith, lit<}
use Rattle.std.specs.List.{range_with_len}
use Rattle.std.proofs.lemmas.List.FromFn.{length-map-range_with_len, get_or-map-range_with_len}
use Rattle.bus.specs.declared.place.Place.{Place}
use Rattle.bus.specs.declared.place.Course.{Course}
use Rattle.bus.specs.declared.place.Addressing.{Addressing}
use Rattle.bus.specs.declared.place.Addressing.TheVariants.{Bytes, Words}
use Rattle.bus.specs.Address.{Sized, course, address_of, place_at, unit_of, turned, moved_place}
use Rattle.bus.specs.Plan.{planned, plan}
use Rattle.bus.proofs.Trips.{address_of_place, address_fits, place_sized}
use Rattle.bus.proofs.Turns.{turned-turned, turned_zero, turned_below}

-- the bus address after one move is one of whole units
whole_unit : (m : Addressing) (d : Bool) (p : Place) → turned 4294967296 d (address_of m p) (unit_of m) % unit_of m ≡ 0
whole_unit Bytes d p = omega arith
whole_unit Words true p = omega arith
whole_unit Words false p = omega arith

-- extended, the registers after a move stand for the moved address
moved_address : (m : Addressing) (d : Bool) (p : Place)
    → address_of m (place_at m (turned 4294967296 d (address_of m p) (unit_of m)) p.low) ≡ turned 4294967296 d (address_of m p) (unit_of m)
moved_address m d p =
    address_of_place m _ p.low (turned_below 4294967296 d (address_of m p) (unit_of m) (lit< tt)) (whole_unit m d p)

first_of : (m : Addressing) (e d : Bool) (p : Place) → Sized p → planned (course m e d) p 0 ≡ address_of m p
first_of m true d p s = rw (mul-zero, turned_zero 4294967296 d (address_of m p) (address_fits m p s))
first_of m false d p s = rw (turned_zero 65536 d p.address s.0)

next_of : (m : Addressing) (e d : Bool) (p : Place) (k : ℕ)
    → planned (course m e d) p (k + 1) ≡ planned (course m e d) (moved_place (course m e d) p) k
next_of m true d p k =
    rw (moved_address m d p, turned-turned 4294967296 d (address_of m p) (unit_of m) (unit_of m * k), add_comm k 1, mul-add (unit_of m) 1 k, mul-one (unit_of m))
next_of m false d p k = rw (turned-turned 65536 d p.address 1 k, add_comm k 1)

sized_by : (m : Addressing) (e d : Bool) (p : Place) → Sized p → Sized (moved_place (course m e d) p)
sized_by m true d p s = place_sized m _ p.low
sized_by m false d p s = (turned_below 65536 d p.address 1 (lit< tt), s.1, s.2)

-- the first address is that of the registers
pub planned_first : (c : Course) (p : Place) → Sized p → planned c p 0 ≡ address_of c.addressing p
planned_first c p s = first_of c.addressing c.extended c.decrement p s

-- each later one stands one place earlier in the plan of the moved registers
pub planned_next : (c : Course) (p : Place) (k : ℕ) → planned c p (k + 1) ≡ planned c (moved_place c p) k
planned_next c p k = next_of c.addressing c.extended c.decrement p k

pub moved_sized : (c : Course) (p : Place) → Sized p → Sized (moved_place c p)
moved_sized c p s = sized_by c.addressing c.extended c.decrement p s

pub length-plan : (c : Course) (p : Place) (n : ℕ) → length (plan c p n) ≡ n
length-plan c p n = length-map-range_with_len (planned c p) 0 n

pub get_or-plan : (c : Course) (p : Place) (n k : ℕ) → k < n → get_or (plan c p n) k 0 ≡ planned c p k
get_or-plan c p n k h = get_or-map-range_with_len (planned c p) 0 n k k 0 h (omega arith)

-- counted from one place on, a function is its shift counted from there
shifted : (f g : ℕ → ℕ) (a n : ℕ) → ((k : ℕ) → f (k + 1) ≡ g k) → map f (range_with_len (a + 1) n) ≡ map g (range_with_len a n)
shifted f g a zero h = refl
shifted f g a (suc n) h = ap₂ ◌∷◌ (h a) (shifted f g (a + 1) n h)

-- a plan is its first address and the plan of the moved registers
pub plan_next : (c : Course) (p : Place) (n : ℕ) → plan c p (suc n) ≡ planned c p 0 ∷ plan c (moved_place c p) n
plan_next c p n = ap₂ ◌∷◌ refl (shifted (planned c p) (planned c (moved_place c p)) 0 n (planned_next c p))

-- and the first address is that of the registers
pub plan-more : (c : Course) (p : Place) (n : ℕ) → Sized p → plan c p (suc n) ≡ address_of c.addressing p ∷ plan c (moved_place c p) n
plan-more c p n s = plan_next c p n ∙ ap (λ a. a ∷ plan c (moved_place c p) n) (planned_first c p s)

pub plan_rest : (c : Course) (p r : Place) → r ≡ moved_place c p → Sized p → (n : ℕ) → plan c p (suc n) ≡ address_of c.addressing p ∷ plan c r n
plan_rest c p r e s n = rw e (plan-more c p n s)
