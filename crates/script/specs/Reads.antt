-- How a script is read, one command or all of it.
use Rattle.std.specs.Prelude.{◌≡◌, ℕ, zero, suc, ◌+◌, ◌*◌, ◌<◌, cond, List, [], ◌∷◌, length, take, drop, Some, None, Ok, Err, Option, Result, ◌==◌, nat_lt, slice_index}
use Rattle.script.specs.declared.command.Command.{Command}
use Rattle.script.specs.declared.commands.Commands.{Commands}
use Rattle.script.specs.declared.fault.ScriptFault.{ScriptFault}
use Rattle.script.specs.declared.fault.ScriptFault.TheVariants.{Unknown, CutShort, NoPlace}
use Rattle.script.specs.declared.reader.Script.{Script}
use Rattle.script.specs.Commands.{Order, Out, In, Lines, Step, Put, Next, order_of, bytes_of}
use Rattle.script.specs.Faults.{number_of}

-- A number in the first two bytes, the lowest first.
abbrev pub first_two : List ℕ → ℕ
first_two s = slice_index s 0 + slice_index s 1 * 256

-- A number in the first four bytes, the lowest first.
abbrev pub first_four : List ℕ → ℕ
first_four s = slice_index s 0 + slice_index s 1 * 256 + slice_index s 2 * 65536 + slice_index s 3 * 16777216

-- A command with n bytes of operands, from what follows its byte: 52 if there are fewer.
abbrev pub whole : ℕ → List ℕ → Order → Result (Option Order) ℕ
whole n s order = cond (nat_lt (length s) n) (Err (number_of CutShort)) (Ok (Some order))

-- What is read at the start of a script: nothing at its end, else a command by its byte, 51 if there is none.
abbrev pub read_of : List ℕ → Result (Option Order) ℕ
read_of [] = Ok None
read_of (b ∷ s) =
    cond (b == 0x01) (whole 3 s (Out (first_two s) (slice_index s 2)))
    (cond (b == 0x02) (whole 2 s (In (first_two s)))
    (cond (b == 0x03) (whole 1 s (Lines (slice_index s 0)))
    (cond (b == 0x04) (whole 2 s (Step (first_two s)))
    (cond (b == 0x05) (whole 12 s (Put (first_four s) (take 8 (drop 4 s))))
    (cond (b == 0x06) (whole 0 s Next)
    (Err (number_of Unknown)))))))

-- What an answer leaves of a script: a command that was read is gone, otherwise all is there.
abbrev pub rest_after : Result (Option Order) ℕ → List ℕ → List ℕ
rest_after (Ok (Some order)) s = drop (length (bytes_of order)) s
rest_after (Ok None) s = s
rest_after (Err n) s = s

-- What is left of a script once its first command is read.
abbrev pub rest_of : List ℕ → List ℕ
rest_of s = rest_after (read_of s) s

-- What a whole script reads as: its commands, and the number of the refusal that ended the reading, 0 if it was the end.
pub record Reading : Type 0 where
  pub orders : List Order
  pub refusal : ℕ

-- With no place left, a command that is still there is refused with 53.
abbrev pub read_full : Result (Option Order) ℕ → Reading
read_full (Ok (Some order)) = record { orders = []; refusal = number_of NoPlace }
read_full (Ok None) = record { orders = []; refusal = 0 }
read_full (Err n) = record { orders = []; refusal = n }

-- With a place, a command that is there comes before those that follow.
abbrev pub read_more : Result (Option Order) ℕ → Reading → Reading
read_more (Ok (Some order)) more = record { orders = order ∷ more.orders; refusal = more.refusal }
read_more (Ok None) more = record { orders = []; refusal = 0 }
read_more (Err n) more = record { orders = []; refusal = n }

-- A script read into n places.
unfoldable pub read_into : ℕ → List ℕ → Reading
read_into zero s = read_full (read_of s)
read_into (suc n) s = read_more (read_of s) (read_into n (rest_of s))

-- What a reader has yet to read.
abbrev pub left : Script → List ℕ
left script = script.rest.now

-- What an answer of the reader says: the command's operands, or the refusal's number.
abbrev pub said_by : Result (Option Command) ScriptFault → Result (Option Order) ℕ
said_by (Ok (Some command)) = Ok (Some (order_of command))
said_by (Ok None) = Ok None
said_by (Err fault) = Err (number_of fault)

-- If a command was read, less of the script is left than before.
abbrev pub Shorter : Result (Option Command) ScriptFault → List ℕ → List ℕ → Type 0
Shorter (Ok (Some command)) before after = length after < length before
Shorter (Ok None) before after = Unit {0}
Shorter (Err fault) before after = Unit {0}

-- What an iterator of commands has yet to read.
abbrev pub coming : Commands → List ℕ
coming commands = left commands.script

-- What comes next of a script, and what is left then: a command and the bytes after it, or, at the end and at a refusal, nothing more.
abbrev pub Comes : Option (Result Command ScriptFault) → List ℕ → List ℕ → Type 0
Comes (Some (Ok command)) before after = (Ok (Some (order_of command)) ≡ read_of before) × (after ≡ rest_of before) × (length after < length before)
Comes None before after = (Ok None ≡ read_of before) × (after ≡ [])
Comes (Some (Err fault)) before after = (Err (number_of fault) ≡ read_of before) × (after ≡ [])
