-- Plans: the addresses that a row of transfers passes, worked out from the registers at its start.
use Rattle.std.specs.Prelude.{ℕ, ◌*◌, cond, List, map}
use Rattle.std.specs.List.{range_with_len}
use Rattle.bus.specs.declared.place.Place.{Place}
use Rattle.bus.specs.declared.place.Course.{Course}
use Rattle.bus.specs.Address.{address_of, unit_of, turned, with_address}

-- the k-th address, from 0: plain, that of the address register moved by k; extended, the first moved by k units
abbrev pub planned : Course → Place → ℕ → ℕ
planned c p k =
    cond c.extended
    (turned 4294967296 c.decrement (address_of c.addressing p) (unit_of c.addressing * k))
    (address_of c.addressing (with_address p (turned 65536 c.decrement p.address k)))

-- the first n addresses
abbrev pub plan : Course → Place → ℕ → List ℕ
plan c p n = map (planned c p) (range_with_len 0 n)
