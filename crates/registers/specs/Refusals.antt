-- The numbers and words of a driver's refusals.
use Rattle.std.specs.Prelude.{ℕ, Ok, Err, Result, List, codes}
use Rattle.registers.specs.declared.refusal.Refusal.{Refusal}
use Rattle.registers.specs.declared.refusal.Refusal.TheVariants.{NoSuchPort, NoSuchChannel, NoSuchSetting, ListActive, UnfitForList, BadTablePointer, LineFour}

-- each refusal has its number
abbrev pub number_of : Refusal → ℕ
number_of NoSuchPort = 1
number_of NoSuchChannel = 2
number_of NoSuchSetting = 3
number_of ListActive = 4
number_of UnfitForList = 5
number_of BadTablePointer = 6
number_of LineFour = 7

-- a refusal in words
abbrev pub refusal_words : Refusal → List ℕ
refusal_words NoSuchPort = codes "there is no such port in that direction"
refusal_words NoSuchChannel = codes "there is no such channel"
refusal_words NoSuchSetting = codes "there is no such setting"
refusal_words ListActive = codes "the channel's list is active"
refusal_words UnfitForList = codes "no list under autoinitialise, cascade or shifted words"
refusal_words BadTablePointer = codes "the table pointer is no multiple of 4, or above FFFF8000h"
refusal_words LineFour = codes "channel 4 has no line"

-- the number that an answer shows: 0 where the access is accepted
abbrev pub shown : {X : Type 0} → Result X Refusal → ℕ
shown (Ok x) = 0
shown (Err e) = number_of e

-- the value that a read answers: 0 where it is refused
abbrev pub value_of : Result ℕ Refusal → ℕ
value_of (Ok v) = v
value_of (Err e) = 0
