-- Units that count up.
use Rattle.std.specs.Prelude.{ℕ, zero, suc, ◌+◌, ◌%◌, cond, List, [], ◌∷◌, slice_index_or}
use Rattle.ports.specs.declared.ramps.Ramp.{Ramp}
use Rattle.ports.specs.declared.ramps.RampBank.{RampBank}
use Rattle.ports.specs.Units.{is_channel}

-- n units v, v + 1 and so on, modulo 65536
unfoldable pub ramp : ℕ → ℕ → List ℕ
ramp v zero = []
ramp v (suc n) = v ∷ ramp ((v + 1) % 65536) n

-- the units of a ramp
abbrev pub ramp_units : Ramp → List ℕ
ramp_units r = ramp r.next r.left

-- a ramp without units
abbrev pub no_ramp : Ramp
no_ramp = record { next = 0; left = 0 }

-- what waits at each channel, by the ramps of the channels 0 to 7
abbrev pub ramps_from : List Ramp → ℕ → List ℕ
ramps_from ramps c = cond (is_channel c) (ramp_units (slice_index_or ramps c no_ramp)) []

-- what waits in a ramp bank
abbrev pub ramp_waiting : RampBank → ℕ → List ℕ
ramp_waiting b = ramps_from b.ramps

-- n units on each channel, from the channel's number on
abbrev pub counting : ℕ → ℕ → List ℕ
counting n c = cond (is_channel c) (ramp c n) []
