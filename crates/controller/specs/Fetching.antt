-- The fetch of one entry: eight bytes from the list's next place, lowest first.
use Rattle.std.specs.Prelude.{ℕ, ◌+◌, ◌*◌, ◌%◌, true, cond, List, [], ◌∷◌, Some, None, Ok, Err, Option, Result, nat_le}
use Rattle.memory.specs.declared.kinds.Kind.{Kind}
use Rattle.memory.specs.Bytes.{is_absent}
use Rattle.registers.specs.declared.channel.Channel.{Channel}
use Rattle.registers.specs.declared.list.List.{List as Chain}
use Rattle.registers.specs.Channels.{with_list}
use Rattle.controller.specs.declared.fault.Fault.{Fault}
use Rattle.controller.specs.declared.fetching.Fetched.{Fetched}
use Rattle.controller.specs.declared.fetching.Word.{Word}
use Rattle.controller.specs.Carrying.{above, named}
use Rattle.controller.specs.Faults.{fault_of}
use Rattle.controller.specs.Passing.{loaded_with, holding}

-- the four bytes of a word of the table, from a on
abbrev pub four : ℕ → List ℕ
four a = a ∷ above a ∷ above (above a) ∷ above (above (above a)) ∷ []

-- the place after a word
abbrev pub after_word : ℕ → ℕ
after_word a = above (above (above (above a)))

-- a byte fetched: 41 where it is absent
abbrev pub fetched_byte : (ℕ → Kind) → (ℕ → ℕ) → ℕ → ℕ → Result ℕ Fault
fetched_byte kinds f c a = cond (is_absent (kinds a)) (Err (fault_of 41 c a)) (Ok (f a))

-- the first of some places that is absent
abbrev pub first_absent : (ℕ → Kind) → List ℕ → Option ℕ
first_absent kinds [] = None
first_absent kinds (x ∷ xs) = cond (is_absent (kinds x)) (Some x) (first_absent kinds xs)

-- the 32-bit word at a, lowest byte first
abbrev pub word_of : (ℕ → ℕ) → ℕ → ℕ
word_of f a = f a + f (above a) * 256 + f (above (above a)) * 65536 + f (above (above (above a))) * 16777216

-- a word, once a check has passed
abbrev pub with_word : Word → Result (Unit {0}) Fault → Result Word Fault
with_word w (Ok u) = Ok w
with_word w (Err e) = Err e

-- a word fetched: 41 at its first absent byte
unfoldable pub fetched_word : (ℕ → Kind) → (ℕ → ℕ) → ℕ → ℕ → Result Word Fault
fetched_word kinds f c a = with_word (record { value = word_of f a; next = after_word a }) (named 41 c (first_absent kinds (four a)))

-- an entry is two words: an address; a count in bits 15:0 and EOL in bit 31
abbrev pub entry_of : ℕ → ℕ → ℕ → Fetched
entry_of address v next = record { entry = record { address = address; count = v % 65536 }; last = nat_le 2147483648 v; next = next }

-- the second word, if it is fetched, completes the entry
abbrev pub paired : Word → Result Word Fault → Result Fetched Fault
paired w (Ok v) = Ok (entry_of w.value v.value v.next)
paired w (Err e) = Err e

-- the first word, if it is fetched, leads to the second
abbrev pub entry_from : (ℕ → Kind) → (ℕ → ℕ) → ℕ → Result Word Fault → Result Fetched Fault
entry_from kinds f c (Ok w) = paired w (fetched_word kinds f c w.next)
entry_from kinds f c (Err e) = Err e

-- the entry at a: 41 at the first of its eight bytes that is absent
abbrev pub entry_at : (ℕ → Kind) → (ℕ → ℕ) → ℕ → ℕ → Result Fetched Fault
entry_at kinds f c a = entry_from kinds f c (fetched_word kinds f c a)

-- the most entries of a list
abbrev pub most_entries : ℕ
most_entries = 4096

-- what a list fetches from its next place: 42 at address 0 instead of an entry more than it may have
abbrev pub fetch_of : (ℕ → Kind) → (ℕ → ℕ) → ℕ → Chain → Result Fetched Fault
fetch_of kinds f c l = cond (nat_le most_entries l.entries) (Err (fault_of 42 c 0)) (entry_at kinds f c l.next)

-- the list after a fetch: the next place moves on, one entry more is counted, EOL is noted
abbrev pub noted : Fetched → Chain → Chain
noted x l = record l { next = x.next; ended = x.last; entries = (l.entries + 1) % 65536 }

-- an entry fills current, or the reserve if current is loaded
abbrev pub filled : Fetched → Channel → Channel
filled x ch = cond ch.list.loaded
    (with_list (holding true (Some x.entry) (noted x ch.list)) ch)
    (with_list (holding true ch.list.reserve (noted x ch.list)) (loaded_with x.entry ch))
