-- The answers to a script's commands, and their bytes.
use Rattle.std.specs.Prelude.{ℕ, List, [], ◌∷◌, ◌++◌, Ok, Err, Result}
use Rattle.memory.specs.declared.kinds.MemoryFault.{MemoryFault}
use Rattle.memory.specs.Faults.{memory_number}
use Rattle.tape.specs.Tapes.{tape_number}
use Rattle.registers.specs.Refusals.{shown, value_of}
use Rattle.script.specs.Commands.{Order, Out, In, Lines, Step, Put, Next, two, four}
use Rattle.runner.specs.declared.answer.Answer.{Answer}
use Rattle.runner.specs.declared.answer.Answer.TheVariants as answer
use Rattle.runner.specs.Notices.{numbers_of, no_numbers}
use Rattle.runner.specs.Told as told
use Rattle.runner.specs.Told.{Told}

-- the number that a write of eight bytes shows: 0 where it is accepted
abbrev pub put_shown : Result (Unit {0}) MemoryFault → ℕ
put_shown (Ok u) = 0
put_shown (Err e) = memory_number e

-- what an answer of the code tells: the number of a refusal, 0 if there is none, and 0 for a value or a notice that is not there
abbrev pub told_of : Answer → Told
told_of (answer.Out done) = told.Out (shown done)
told_of (answer.In done) = told.In (shown done) (value_of done)
told_of (answer.Lines done) = told.Lines (shown done)
told_of (answer.Step steps transfers) = told.Step steps transfers
told_of (answer.Put done) = told.Put (put_shown done)
told_of (answer.Next (Ok notice)) = told.Next 0 (numbers_of notice)
told_of (answer.Next (Err fault)) = told.Next (tape_number fault) no_numbers

-- an answer is its own byte, then what it tells; numbers of more bytes have the lowest first
abbrev pub answer_bytes : Told → List ℕ
answer_bytes (told.Out refusal) = 0x81 ∷ refusal ∷ []
answer_bytes (told.In refusal value) = 0x82 ∷ refusal ∷ value ∷ []
answer_bytes (told.Lines refusal) = 0x83 ∷ refusal ∷ []
answer_bytes (told.Step steps transfers) = 0x84 ∷ two steps ++ two transfers
answer_bytes (told.Put refusal) = 0x85 ∷ refusal ∷ []
answer_bytes (told.Next refusal notice) = 0x86 ∷ refusal ∷ notice.channel ∷ notice.cause ∷ four notice.address

-- how many bytes the answer to a command has, whatever it says
abbrev pub answer_size : Order → ℕ
answer_size (Out port value) = 2
answer_size (In port) = 3
answer_size (Lines bits) = 2
answer_size (Step count) = 5
answer_size (Put address bytes) = 2
answer_size Next = 8
