-- Where a script's first bytes are those of a command.
use Rattle.std.proofs.Common.{◌≡◌, ℕ, ◌+◌, ◌-◌, ◌*◌, ◌<◌, ◌≤◌, List, [], ◌∷◌, ◌++◌, length, get_or, take, drop, sym, ap, ◌∙◌, arith}
use Rattle.std.proofs.lemmas.List.{take_rest, drop_more, take-append-drop, length-append, length-take, length-drop}
use Rattle.script.specs.Commands.{Out, In, Lines, Step, Put, Next, two}
use Rattle.script.proofs.Bytes.{two_bytes, four_bytes}
use Rattle.script.proofs.Reading.{There, there}

module _ (s : List ℕ) where
  -- A number in the second and third byte.
  module _ (n : ℕ) (is_number : n ≡ get_or s 1 0 + get_or s 2 0 * 256) (low : get_or s 1 0 < 256) (high : get_or s 2 0 < 256) where
    bytes : two n ≡ get_or s 1 0 ∷ get_or s 2 0 ∷ []
    bytes = two_bytes (get_or s 1 0) (get_or s 2 0) low high n is_number

    pub out_there : 4 ≤ length s → get_or s 0 0 ≡ 1 → There (Out n (get_or s 3 0)) s (take (length s - 4) (drop 4 s))
    out_there size begins =
        there (Out n (get_or s 3 0)) s _ (omega arith)
        (cc (bytes, take_rest s 4, drop_more s 0 0 (omega arith), drop_more s 1 0 (omega arith), drop_more s 2 0 (omega arith), drop_more s 3 0 (omega arith)))

    pub in_there : 3 ≤ length s → get_or s 0 0 ≡ 2 → There (In n) s (take (length s - 3) (drop 3 s))
    in_there size begins = there (In n) s _ (omega arith) (cc (bytes, take_rest s 3, drop_more s 0 0 (omega arith), drop_more s 1 0 (omega arith), drop_more s 2 0 (omega arith)))

    pub step_there : 3 ≤ length s → get_or s 0 0 ≡ 4 → There (Step n) s (take (length s - 3) (drop 3 s))
    step_there size begins = there (Step n) s _ (omega arith) (cc (bytes, take_rest s 3, drop_more s 0 0 (omega arith), drop_more s 1 0 (omega arith), drop_more s 2 0 (omega arith)))

  pub lines_there : 2 ≤ length s → get_or s 0 0 ≡ 3 → There (Lines (get_or s 1 0)) s (take (length s - 2) (drop 2 s))
  lines_there size begins = there (Lines (get_or s 1 0)) s _ tt (cc (take_rest s 2, drop_more s 0 0 (omega arith), drop_more s 1 0 (omega arith)))

  pub next_there : 1 ≤ length s → get_or s 0 0 ≡ 6 → There Next s (take (length s - 1) (drop 1 s))
  next_there size begins = there Next s _ tt (cc (take_rest s 1, drop_more s 0 0 (omega arith)))

  -- PUT's eight bytes follow its address.
  module _ (bytes rest : List ℕ) (cut : drop 5 s ≡ bytes ++ rest) (eight : length bytes ≡ 8) where
    pub put_there : (n : ℕ) → get_or s 0 0 ≡ 5 → n ≡ get_or s 1 0 + get_or s 2 0 * 256 + get_or s 3 0 * 65536 + get_or s 4 0 * 16777216 → get_or s 1 0 < 256 → get_or s 2 0 < 256 → get_or s 3 0 < 256 → get_or s 4 0 < 256 → There (Put n bytes) s rest
    put_there n begins is_number h1 h2 h3 h4 =
        let size : 5 ≤ length s = omega (arith, sym (length-drop 5 s) ∙ ap length cut ∙ length-append bytes rest) in
        let address = four_bytes (get_or s 1 0) (get_or s 2 0) (get_or s 3 0) (get_or s 4 0) h1 h2 h3 h4 n is_number in
        there (Put n bytes) s rest (omega arith, eight)
        (cc (drop_more s 0 0 (omega arith), drop_more s 1 0 (omega arith), drop_more s 2 0 (omega arith), drop_more s 3 0 (omega arith), drop_more s 4 0 (omega arith)))

-- Eight bytes and the rest, as they are split off.
module _ (s bytes rest : List ℕ) (is_bytes : bytes ≡ take 8 s) (is_rest : rest ≡ drop 8 s) where
  pub split_whole : s ≡ bytes ++ rest
  split_whole = sym (take-append-drop 8 s) ∙ (cc)

  pub split_eight : length rest + 8 ≡ length s → length bytes ≡ 8
  split_eight size = rw is_bytes (simp length-take (omega arith))
