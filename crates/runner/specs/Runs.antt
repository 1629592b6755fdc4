-- A whole script, command by command.
use Rattle.std.specs.Prelude.{◌≡◌, ℕ, ◌-◌, ◌≤◌, cond, List, [], ◌∷◌, ◌++◌, length, drop, Result, nat_lt}
use Rattle.script.specs.declared.fault.ScriptFault.TheVariants.{NoPlace}
use Rattle.script.specs.Commands.{Order}
use Rattle.script.specs.Faults.{number_of}
use Rattle.script.specs.Reads.{Reading, read_into}
use Rattle.script.specs.Writes.{size_in, block_after}
use Rattle.runner.specs.Answers.{answer_bytes}
use Rattle.runner.specs.Plays.{Run, played}

-- one command with a block for its answer: the run and the block afterwards, and the answer's length;
-- without a place for the whole answer it is refused, 53, before it is played
abbrev pub turn_of : Order → List ℕ → Run → (Run × List ℕ) × Result ℕ ℕ
turn_of order block r =
    let bytes = answer_bytes (played order r).1 in
    ((cond (nat_lt (length block) (length bytes)) r (played order r).0, block_after block bytes), size_in block bytes)

-- what a run comes to: the refusal that ended it, 0 if it was the script's end; the bytes of its answers; and what it leaves
pub record Ran : Type 0 where
  pub refusal : ℕ
  pub answers : List ℕ
  pub run : Run

-- a run that ends here answers nothing more
abbrev pub ended : ℕ → Run → Ran
ended number r = record { refusal = number; answers = []; run = r }

-- the bytes of an answer before those of the answers that follow
abbrev pub answered : List ℕ → Ran → Ran
answered bytes more = record { refusal = more.refusal; answers = bytes ++ more.answers; run = more.run }

-- commands one after the other, with n bytes of place for their answers, up to the refusal that ends their script;
-- one whose whole answer finds no place is refused, 53, before it is played
unfoldable pub play_all : List Order → ℕ → ℕ → Run → Ran
play_all [] number n r = ended number r
play_all (order ∷ orders) number n r =
    cond (nat_lt n (length (answer_bytes (played order r).1))) (ended (number_of NoPlace) r)
    (answered (answer_bytes (played order r).1) (play_all orders number (n - length (answer_bytes (played order r).1)) (played order r).0))

-- the commands that were read of a script, up to the refusal that ended the reading
abbrev pub play_reading : Reading → ℕ → Run → Ran
play_reading reading n r = play_all reading.orders reading.refusal n r

-- THE RUN of a script with n bytes of place for its answers: a script has at most as many commands as bytes
abbrev pub run_of : List ℕ → ℕ → Run → Ran
run_of script n r = play_reading (read_into (length script) script) n r

-- what the caller finds: the number, how many bytes were answered, and the output, in which they come before what stood there
pub record Answered (p : Ran) (block : List ℕ) (number size : ℕ) (after : List ℕ) : Type 0 where
  pub refusal : number ≡ p.refusal
  pub sized : size ≡ length p.answers
  pub within : size ≤ length block
  pub output : after ≡ p.answers ++ drop size block
