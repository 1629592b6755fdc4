-- Which of four slots is chosen, over a predicate that says which of them ask.
use Rattle.std.specs.Prelude.{ℕ, zero, suc, ◌+◌, ◌*◌, ◌/◌, ◌%◌, ◌^◌, Bool, cond, Some, None, Option, ◌==◌}
use mir.Val.{bool_byte}

-- slot k asks in a mask if bit k is set
abbrev pub asks_in : ℕ → ℕ → Bool
asks_in mask k = mask / 2 ^ k % 2 == 1

-- the first that asks of n slots, from k on and going round
unfoldable pub first_from : ℕ → (ℕ → Bool) → ℕ → Option ℕ
first_from zero ask k = None
first_from (suc n) ask k = cond (ask (k % 4)) (Some (k % 4)) (first_from n ask (k + 1))

-- slot 0 is looked at first, or rotating after the slot last chosen
abbrev pub start_of : Bool → ℕ → ℕ
start_of rotating last = cond rotating ((last + 1) % 4) 0

-- the chosen slot: the first of the four that asks
abbrev pub chosen_slot : (ℕ → Bool) → Bool → ℕ → Option ℕ
chosen_slot ask rotating last = first_from 4 ask (start_of rotating last)

-- flag k of four
abbrev pub flag_of : Bool → Bool → Bool → Bool → ℕ → Bool
flag_of a b c d k = cond (k == 0) a (cond (k == 1) b (cond (k == 2) c d))

-- four flags as a number, the first as bit 0
abbrev pub mask_of : Bool → Bool → Bool → Bool → ℕ
mask_of a b c d = bool_byte a + 2 * bool_byte b + 4 * bool_byte c + 8 * bool_byte d
