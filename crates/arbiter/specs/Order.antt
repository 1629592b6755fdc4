-- The channels that win in a row of choices, while the same slots keep asking.
use Rattle.std.specs.Prelude.{◌≡◌, ℕ, zero, suc, true, List, [], ◌∷◌, map, Some, Option}
use Rattle.std.specs.Option.{option_map}
use Rattle.arbiter.specs.declared.groups.Side.{Side}
use Rattle.arbiter.specs.declared.groups.Choice.{Choice}
use Rattle.arbiter.specs.Groups.{Group, group_of, winner_of, first_last, second_last}

-- a group with another slot last chosen
abbrev pub with_last : Group → ℕ → Group
with_last g n = record { asks = g.asks; rotating = g.rotating; last = n }

-- a side with another slot last chosen
abbrev pub set_last : Side → ℕ → Side
set_last s n = record { asking = s.asking; rotating = s.rotating; last = n }

-- the channel that wins
abbrev pub channel_of : Option Choice → Option ℕ
channel_of r = option_map (λ (w : Choice). w.channel) r

-- the winners of n choices, the slots last chosen being kept from each to the next
unfoldable pub winners : ℕ → Group → Group → List (Option ℕ)
winners zero first second = []
winners (suc n) first second =
    let r = winner_of first second in
    channel_of r ∷ winners n (with_last first (first_last r first.last)) (with_last second (second_last r second.last))

-- a group at its start, rotating, in which every slot asks
abbrev pub everybody : Group
everybody = group_of (record { asking = 15; rotating = true; last = 3 })

-- the channels that win seventeen choices, all seven asking and both groups rotating
abbrev pub worked : List (Option ℕ)
worked = map Some (0 ∷ 5 ∷ 6 ∷ 7 ∷ 1 ∷ 5 ∷ 6 ∷ 7 ∷ 2 ∷ 5 ∷ 6 ∷ 7 ∷ 3 ∷ 5 ∷ 6 ∷ 7 ∷ 0 ∷ [])

-- the definitions give that order
abbrev pub WorkedOrder : Type 0
WorkedOrder = winners 17 everybody everybody ≡ worked
