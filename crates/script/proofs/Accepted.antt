-- A script that is accepted is written again as the same bytes.
use Rattle.std.proofs.Common.{◌≡◌, ℕ, zero, suc, ◌+◌, ◌<◌, ◌≤◌, List, [], ◌∷◌, ◌++◌, length, get_or, take, drop, Some, None, Ok, Err, Option, Result, sym, refl, ap, ◌∙◌, arith}
use Rattle.std.proofs.lemmas.List.{get_or-drop, length-take, length-drop, take-append-drop}
use Rattle.std.proofs.lemmas.Bool.Decides.{nat_tests}
use Rattle.script.specs.Commands.{Order, Out, In, Lines, Step, Put, Next, bytes_of, script_of}
use Rattle.script.specs.Laws.{ScriptRewrites}
use Rattle.script.specs.Reads.{Reading, read_of, rest_after, rest_of, read_full, read_more, read_into}
use Rattle.script.proofs.Reading.{There}
use Rattle.script.proofs.Standing.{out_there, in_there, lines_there, step_there, put_there, next_there}

-- The byte that a command was read from, and how many bytes of operands there are.
is_out : (b : ℕ) (s : List ℕ) (port value : ℕ) → Ok (Some (Out port value)) ≡ read_of (b ∷ s) → (b ≡ 1) × (3 ≤ length s)
is_out b s port value read = grind (arith, nat_tests)

is_in : (b : ℕ) (s : List ℕ) (port : ℕ) → Ok (Some (In port)) ≡ read_of (b ∷ s) → (b ≡ 2) × (2 ≤ length s)
is_in b s port read = grind (arith, nat_tests)

is_lines : (b : ℕ) (s : List ℕ) (bits : ℕ) → Ok (Some (Lines bits)) ≡ read_of (b ∷ s) → (b ≡ 3) × (1 ≤ length s)
is_lines b s bits read = grind (arith, nat_tests)

is_step : (b : ℕ) (s : List ℕ) (count : ℕ) → Ok (Some (Step count)) ≡ read_of (b ∷ s) → (b ≡ 4) × (2 ≤ length s)
is_step b s count read = grind (arith, nat_tests)

is_put : (b : ℕ) (s : List ℕ) (address : ℕ) (bytes : List ℕ) → Ok (Some (Put address bytes)) ≡ read_of (b ∷ s) → (b ≡ 5) × (12 ≤ length s)
is_put b s address bytes read = grind (arith, nat_tests)

is_next : (b : ℕ) (s : List ℕ) → Ok (Some Next) ≡ read_of (b ∷ s) → b ≡ 6
is_next b s read = grind (arith, nat_tests)

-- A script with a byte left has not ended, and no refusal has the number 0.
is_end : (s : List ℕ) → Ok None ≡ read_of s → s ≡ []
is_end [] read = refl
is_end (b ∷ s) read = grind (arith, nat_tests)

is_refused : (s : List ℕ) (number : ℕ) → Err number ≡ read_of s → 0 < number
is_refused [] number read = absurd (cc)
is_refused (b ∷ s) number read = grind (arith, nat_tests)

same : (o p : Order) (s t : List ℕ) → There p s t → Ok (Some o) ≡ read_of s → s ≡ bytes_of o ++ rest_of s
same o p s t there read = cc

-- A command that was read stood there as its bytes.
stood : (s : List ℕ) (order : Order) → ((i : ℕ) → get_or s i 0 < 256) → Ok (Some order) ≡ read_of s → s ≡ bytes_of order ++ rest_of s
stood [] order small read = cc
stood (b ∷ s) (Out port value) small read =
    let k = is_out b s port value read in
    same _ _ _ _ (out_there (b ∷ s) _ refl (small 1) (small 2) (omega arith) k.0) read
stood (b ∷ s) (In port) small read =
    let k = is_in b s port read in
    same _ _ _ _ (in_there (b ∷ s) _ refl (small 1) (small 2) (omega arith) k.0) read
stood (b ∷ s) (Lines bits) small read =
    let k = is_lines b s bits read in
    same _ _ _ _ (lines_there (b ∷ s) (omega arith) k.0) read
stood (b ∷ s) (Step count) small read =
    let k = is_step b s count read in
    same _ _ _ _ (step_there (b ∷ s) _ refl (small 1) (small 2) (omega arith) k.0) read
stood (b ∷ s) (Put address bytes) small read =
    let k = is_put b s address bytes read in
    let eight : length (take 8 (drop 4 s)) ≡ 8 = simp (length-take, length-drop) (omega arith) in
    same _ _ _ _ (put_there (b ∷ s) _ (drop 8 (drop 4 s)) (sym (take-append-drop 8 (drop 4 s))) eight _ k.0 refl (small 1) (small 2) (small 3) (small 4)) read
stood (b ∷ s) Next small read = same _ _ _ _ (next_there (b ∷ s) (omega arith) (is_next b s read)) read

-- One command, with no place or with more to come.
full : (s : List ℕ) (r : Result (Option Order) ℕ) → r ≡ read_of s → (read_full r).refusal ≡ 0 → script_of (read_full r).orders ≡ s
full s (Ok (Some order)) read end = absurd (omega arith)
full s (Ok None) read end = sym (is_end s read)
full s (Err number) read end = absurd (omega (arith, is_refused s number read))

more : (s : List ℕ) (r : Result (Option Order) ℕ) (next : Reading) → ((i : ℕ) → get_or s i 0 < 256) → r ≡ read_of s → (next.refusal ≡ 0 → script_of next.orders ≡ rest_of s) → (read_more r next).refusal ≡ 0 → script_of (read_more r next).orders ≡ s
more s (Ok (Some order)) next small read rest end = ap (λ u. bytes_of order ++ u) (rest end) ∙ sym (stood s order small read)
more s (Ok None) next small read rest end = sym (is_end s read)
more s (Err number) next small read rest end = absurd (omega (arith, is_refused s number read))

-- What is left of a row of bytes is one.
rest_small : (s : List ℕ) (r : Result (Option Order) ℕ) → ((i : ℕ) → get_or s i 0 < 256) → (i : ℕ) → get_or (rest_after r s) i 0 < 256
rest_small s (Ok (Some order)) small i = rw get_or-drop (small (length (bytes_of order) + i))
rest_small s (Ok None) small i = small i
rest_small s (Err number) small i = small i

pub script_rewrites : (s : List ℕ) → ((i : ℕ) → get_or s i 0 < 256) → ScriptRewrites s
unfolding read_into
script_rewrites s small zero end = full s (read_of s) refl end
script_rewrites s small (suc n) end =
    more s (read_of s) (read_into n (rest_of s)) small refl (script_rewrites (rest_of s) (rest_small s (read_of s) small) n) end
