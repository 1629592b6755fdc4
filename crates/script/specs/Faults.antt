-- The numbers of a script's refusals.
use Rattle.std.specs.Prelude.{ℕ, List, codes, Some, None, Ok, Err, Option, Result}
use Rattle.script.specs.declared.fault.ScriptFault.{ScriptFault}
use Rattle.script.specs.declared.fault.ScriptFault.TheVariants.{Unknown, CutShort, NoPlace}

-- 51 no such command, 52 a command whose operands are cut short, 53 no place for a whole command.
abbrev pub number_of : ScriptFault → ℕ
number_of Unknown = 51
number_of CutShort = 52
number_of NoPlace = 53

-- A refusal in words.
abbrev pub fault_words : ScriptFault → List ℕ
fault_words Unknown = codes "the byte is no command"
fault_words CutShort = codes "the script ends inside the command"
fault_words NoPlace = codes "there is no place for the whole of it"

-- The number of a call that may be refused: 0 if it was not.
abbrev pub refusal_of : Option ScriptFault → ℕ
refusal_of None = 0
refusal_of (Some fault) = number_of fault

-- An answer with its refusal as a number.
abbrev pub numbered : {X : Type 0} → Result X ScriptFault → Result X ℕ
numbered (Ok x) = Ok x
numbered (Err fault) = Err (number_of fault)
