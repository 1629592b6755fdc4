-- What writing and reading say of each other.
use Rattle.std.specs.Prelude.{◌≡◌, ℕ, ◌≤◌, List, ◌++◌, length, Some, Ok}
use Rattle.script.specs.Commands.{Order, bytes_of, script_of}
use Rattle.script.specs.Reads.{read_of, read_into}

-- A command reads back from its bytes, whatever follows them.
abbrev pub CommandReadsBack : Order → Type 0
CommandReadsBack order = (s : List ℕ) → read_of (bytes_of order ++ s) ≡ Ok (Some order)

-- A script reads back as the commands that it was written from, into places for all of them.
abbrev pub ScriptReadsBack : List Order → Type 0
ScriptReadsBack orders = (n : ℕ) → length orders ≤ n → read_into n (script_of orders) ≡ record { orders = orders; refusal = 0 }

-- A script that is accepted, read to its end without a refusal, is written again as the same bytes.
abbrev pub ScriptRewrites : List ℕ → Type 0
ScriptRewrites s = (n : ℕ) → (read_into n s).refusal ≡ 0 → script_of (read_into n s).orders ≡ s
