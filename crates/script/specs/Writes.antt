-- How commands are written, one or a row of them.
use Rattle.std.specs.Prelude.{ℕ, ◌-◌, cond, List, [], ◌∷◌, ◌++◌, length, drop, Ok, Err, Result, nat_lt}
use Rattle.script.specs.declared.fault.ScriptFault.TheVariants.{NoPlace}
use Rattle.script.specs.Commands.{Order, bytes_of}
use Rattle.script.specs.Faults.{number_of}

-- Bytes written at the start of a block: how many, 53 if it is too short for all of them.
abbrev pub size_in : List ℕ → List ℕ → Result ℕ ℕ
size_in block bytes = cond (nat_lt (length block) (length bytes)) (Err (number_of NoPlace)) (Ok (length bytes))

-- The block afterwards: a refusal changes nothing, and what lies past the bytes stays.
abbrev pub block_after : List ℕ → List ℕ → List ℕ
block_after block bytes = cond (nat_lt (length block) (length bytes)) block (bytes ++ drop (length bytes) block)

-- The commands of a row that are written into n bytes: all before the first that finds no place.
unfoldable pub fitting : ℕ → List Order → List Order
fitting n [] = []
fitting n (order ∷ orders) =
    cond (nat_lt n (length (bytes_of order))) [] (order ∷ fitting (n - length (bytes_of order)) orders)

-- The refusal of a row: 53 if a command of it was not written.
abbrev pub refused_in : ℕ → List Order → ℕ
refused_in n orders = cond (nat_lt (length (fitting n orders)) (length orders)) (number_of NoPlace) 0
