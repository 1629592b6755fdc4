-- A row of choices, one after the other.
use Rattle.std.proofs.Common.{◌≡◌, ℕ, suc, ◌+◌, ◌-◌, ◌<◌, ◌≤◌, List, ◌++◌, length, take, set, Option, refl, arith}
use Rattle.std.proofs.lemmas.List.{append_assoc, append-nil, take_more_set, take_all}
use Rattle.arbiter.specs.Slots.{first_from}
use Rattle.arbiter.specs.Groups.{Group, winner_of, first_last, second_last}
use Rattle.arbiter.specs.Order.{winners, with_last, channel_of, WorkedOrder}

-- the winner that is written down, and those to come
pub winners-more : (n i : ℕ) (xs all : List (Option ℕ)) (f s f' s' : Group) (x : Option ℕ) → length xs ≡ n → i < n
    → take i xs ++ winners (n - i) f s ≡ all → x ≡ channel_of (winner_of f s)
    → f' ≡ with_last f (first_last (winner_of f s) f.last) → s' ≡ with_last s (second_last (winner_of f s) s.last)
    → take (i + 1) (set xs i x) ++ winners (n - (i + 1)) f' s' ≡ all
unfolding winners
winners-more n i xs all f s f' s' x long h e p q r =
    let k : i < length xs = omega arith in
    let m : n - i ≡ suc (n - (i + 1)) = omega arith in
    rw (take_more_set xs i x k, append_assoc, p, q, r) (rw m at e)

-- none is to come after the last
pub winners_all : (n i : ℕ) (xs all : List (Option ℕ)) (f s : Group) → length xs ≡ n → i ≡ n → take i xs ++ winners (n - i) f s ≡ all → xs ≡ all
unfolding winners
winners_all n i xs all f s long p e =
    let z : n - i ≡ 0 = omega arith in
    let k : length xs ≤ i = omega arith in
    rw (z, append-nil, take_all i xs k) at e

-- seventeen choices, worked out
pub worked_order : WorkedOrder
unfolding winners first_from
worked_order = refl
