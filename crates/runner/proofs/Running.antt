-- A script played command by command.
use Rattle.std.proofs.Common.{◌≡◌, ℕ, ◌+◌, ◌-◌, ◌<◌, ◌≤◌, List, [], ◌∷◌, ◌++◌, length, take, drop, Some, None, Ok, Err, Result, sym, refl, ap, ◌∙◌, subst, arith}
use borrow.Rule.Slice.PartMut.{put_mid}
use Rattle.std.proofs.lemmas.List.{append-nil, append_assoc, length-append, length-take-le, length-drop, take_rest, take_at, drop_at, drop_all, drop-drop, take-append-drop}
use Rattle.std.proofs.lemmas.Bool.{cond-true, cond-false, lt-ltb, le-ltb}
use Rattle.std.proofs.lemmas.Bool.Decides.{nat_tests}
use Rattle.controller.specs.Outside.{Does}
use Rattle.script.specs.declared.command.Command.{Command}
use Rattle.script.specs.declared.fault.ScriptFault.{ScriptFault}
use Rattle.script.specs.Commands.{Order, order_of}
use Rattle.script.specs.Faults.{number_of}
use Rattle.script.specs.Reads.{read_of, rest_of, read_into, Comes}
use Rattle.script.specs.Writes.{size_in}
use Rattle.script.proofs.Rows.{behind, Going, going_more, going_end, going_refused}
use Rattle.runner.specs.Answers.{answer_bytes}
use Rattle.runner.specs.Plays.{Run, played}
use Rattle.runner.specs.Runs.{Ran, turn_of, ended, answered, play_all, play_reading, run_of, Answered}

-- what comes of a script, where it is a command and where it is a refusal
module _ (s t : List ℕ) {x : Result Command ScriptFault} (comes : Comes (Some x) s t) where
  pub comes_command : {command : Command} → x ≡ Ok command → (Ok (Some (order_of command)) ≡ read_of s) × (t ≡ rest_of s) × (length t < length s)
  comes_command is = subst (λ y. Comes (Some y) s t) is comes

  pub comes_refused : {fault : ScriptFault} → x ≡ Err fault → (Err (number_of fault) ≡ read_of s) × (t ≡ [])
  comes_refused is = subst (λ y. Comes (Some y) s t) is comes

-- the end of a row, and a command with and without place for its answer
play_none : (number n : ℕ) (r : Run) → play_all [] number n r ≡ ended number r
unfolding play_all
play_none number n r = refl

play_one : (order : Order) (orders : List Order) (number n : ℕ) (r : Run) → length (answer_bytes (played order r).1) ≤ n
    → play_all (order ∷ orders) number n r ≡ answered (answer_bytes (played order r).1) (play_all orders number (n - length (answer_bytes (played order r).1)) (played order r).0)
unfolding play_all
play_one order orders number n r place = cond-false _ _ _ (le-ltb _ _ place)

play_full : (order : Order) (orders : List Order) (number n : ℕ) (r : Run) → n < length (answer_bytes (played order r).1) → play_all (order ∷ orders) number n r ≡ ended 53 r
unfolding play_all
play_full order orders number n r full = cond-true _ _ _ (lt-ltb _ _ full)

-- two answers one after the other
answered-more : (first second : List ℕ) (p : Ran) → answered first (answered second p) ≡ answered (first ++ second) p
answered-more first second p = ap (λ u. record { refusal = p.refusal; answers = u; run = p.run }) (sym (append_assoc first second p.answers))

-- what an answer says of the place
size_ok : (block bytes : List ℕ) (k : ℕ) → Ok k ≡ size_in block bytes → (length bytes ≤ length block) × (k ≡ length bytes)
size_ok block bytes k answer = grind (arith, nat_tests)

size_refused : (block bytes : List ℕ) (number : ℕ) → Err number ≡ size_in block bytes → (length block < length bytes) × (number ≡ 53)
size_refused block bytes number answer = grind (arith, nat_tests)

-- a script with a command, at its end, and refused
going : (n : ℕ) (s : List ℕ) → Going n s [] s
going n s = let whole : n ≡ n - 0 = omega arith in ap (λ k. read_into k s) whole

-- the script up to here is played, behind the answers in the output; the rest of it goes on from where that led
pub record Running (script : List ℕ) (first : Run) (block rest : List ℕ) (here : Run) (size : ℕ) (out : List ℕ) : Type 0 where
  pub places : ℕ
  pub enough : length rest ≤ places
  pub row : run_of script (length block) first ≡ answered (take size out) (play_reading (read_into places rest) (length block - size) here)
  pub within : size ≤ length block
  pub long : length out ≡ length block
  pub others : drop size out ≡ drop size block

-- a part of the output from size on, changed
part_is : (size : ℕ) (out part : List ℕ) → put_mid size (length out - size) out part ≡ take size out ++ part
part_is size out part =
    let none : drop (length out - size) (drop size out) ≡ [] = drop_all (length out - size) (drop size out) (simp length-drop (omega arith)) in
    ap (λ u. take size out ++ (part ++ u)) none ∙ ap (λ u. take size out ++ u) (append-nil part)

module _ {script : List ℕ} {first : Run} {block rest : List ℕ} {here : Run} {size : ℕ} {out : List ℕ} (so : Running script first block rest here size out) where
  left_is : take (length out - size) (drop size out) ≡ drop size block
  left_is = take_rest out size ∙ so.others

  left_size : length (take (length out - size) (drop size out)) ≡ length block - size
  left_size = ap length left_is ∙ length-drop size block

  taken : length (take size out) ≡ size
  taken = length-take-le size out (omega (arith, so.within, so.long))

  -- the run ends here
  module _ (number : ℕ) (end : play_reading (read_into so.places rest) (length block - size) here ≡ ended number here) where
    all : run_of script (length block) first ≡ record { refusal = number; answers = take size out; run = here }
    all = so.row ∙ ap (answered (take size out)) end ∙ ap (λ u. record { refusal = number; answers = u; run = here }) (append-nil (take size out))

    pub ends : Answered (run_of script (length block) first) block number size out × (here.state.world ≡ (run_of script (length block) first).run.state.world)
    ends = (
      record {
        refusal = ap (λ p. p.refusal) (sym all);
        sized = sym taken ∙ ap (λ p. length p.answers) (sym all);
        within = so.within;
        output = sym (take-append-drop size out) ∙ (λ i. (sym all i).answers ++ so.others i);
      },
      ap (λ p. p.run.state.world) (sym all),
    )

  pub running_end : Ok None ≡ read_of rest → Answered (run_of script (length block) first) block 0 size out × (here.state.world ≡ (run_of script (length block) first).run.state.world)
  running_end read =
      let n = so.places in
      ends 0 (ap (λ reading. play_reading reading (length block - size) here) (going_end n rest [] rest (going n rest) read) ∙ play_none 0 (length block - size) here)

  pub running_refused : {number : ℕ} → Err number ≡ read_of rest → Answered (run_of script (length block) first) block number size out × (here.state.world ≡ (run_of script (length block) first).run.state.world)
  running_refused {number} read =
      let n = so.places in
      ends number (ap (λ reading. play_reading reading (length block - size) here) (going_refused n rest [] rest (going n rest) number read) ∙ play_none number (length block - size) here)

  -- a command is there
  module _ {order : Order} {t : List ℕ} (read : Ok (Some order) ≡ read_of rest) (left : t ≡ rest_of rest) (shorter : length t < length rest) where
    more : read_into so.places rest ≡ behind (order ∷ []) (read_into (so.places - 1) t)
    more = going_more so.places rest [] rest (going so.places rest) order t (omega (arith, so.enough)) read left

    module _ {next : Run} {part : List ℕ} where
      -- it finds place
      pub running_more : {k : ℕ} → Does (turn_of order (take (length out - size) (drop size out)) here) (next, part) (Ok k) → Running script first block t next (size + k) (put_mid size (length out - size) out part)
      running_more {k} does =
          let bytes = answer_bytes (played order here).1 in
          let known = size_ok (take (length out - size) (drop size out)) bytes k does.answer in
          let place : length bytes ≤ length block - size = rw left_size at known.0 in
          let moved : (played order here).0 ≡ next = sym (ap (λ p. p.0) does.state ∙ cond-false _ _ _ (le-ltb _ _ known.0)) in
          let written : part ≡ bytes ++ drop (size + k) block =
          ap (λ p. p.1) does.state
          ∙ cond-false _ _ _ (le-ltb _ _ known.0)
          ∙ (λ i. bytes ++ drop (sym known.1 i) (left_is i))
          ∙ ap (λ u. bytes ++ u) (drop-drop k size block)
          in
          let after : put_mid size (length out - size) out part ≡ (take size out ++ bytes) ++ drop (size + k) block =
          part_is size out part ∙ ap (λ u. take size out ++ u) written ∙ sym (append_assoc (take size out) bytes (drop (size + k) block))
          in
          let front : length (take size out ++ bytes) ≡ size + k = length-append (take size out) bytes ∙ (λ i. taken i + sym known.1 i) in
          let answers : take size out ++ bytes ≡ take (size + k) (put_mid size (length out - size) out part) =
          sym (ap (take (size + k)) after ∙ take_at (take size out ++ bytes) (drop (size + k) block) (size + k) front) in
          let place-left : length block - size - length bytes ≡ length block - (size + k) = omega (arith, known.1) in
          let reading = read_into (so.places - 1) t in
          let step : play_reading (read_into so.places rest) (length block - size) here ≡ answered bytes (play_reading reading (length block - (size + k)) next) =
          ap (λ x. play_reading x (length block - size) here) more
          ∙ play_one order reading.orders reading.refusal (length block - size) here place
          ∙ (λ i. answered bytes (play_reading reading (place-left i) (moved i)))
          in
          record {
            places = so.places - 1;
            enough = omega (arith, so.enough);
            row = so.row
                ∙ ap (answered (take size out)) step
                ∙ answered-more (take size out) bytes (play_reading reading (length block - (size + k)) next)
                ∙ ap (λ u. answered u (play_reading reading (length block - (size + k)) next)) answers;
            within = omega (arith, known.1, so.within);
            long = ap length after ∙ length-append (take size out ++ bytes) (drop (size + k) block) ∙ (λ i. front i + length-drop (size + k) block i) ∙ omega (arith, known.1, so.within);
            others = ap (drop (size + k)) after ∙ drop_at (take size out ++ bytes) (drop (size + k) block) (size + k) front;
          }

      -- it finds none
      pub running_full : {number k : ℕ} → number ≡ k → Does (turn_of order (take (length out - size) (drop size out)) here) (next, part) (Err k)
          → Answered (run_of script (length block) first) block number size (put_mid size (length out - size) out part) × (next.state.world ≡ (run_of script (length block) first).run.state.world)
      running_full {number} {k} same_number does =
          let bytes = answer_bytes (played order here).1 in
          let known = size_refused (take (length out - size) (drop size out)) bytes k does.answer in
          let full : length block - size < length bytes = rw left_size at known.0 in
          let stood : next ≡ here = ap (λ p. p.0) does.state ∙ cond-true _ _ _ (lt-ltb _ _ known.0) in
          let same : put_mid size (length out - size) out part ≡ out =
          part_is size out part
          ∙ ap (λ u. take size out ++ u) (ap (λ p. p.1) does.state ∙ cond-true _ _ _ (lt-ltb _ _ known.0) ∙ take_rest out size)
          ∙ take-append-drop size out
          in
          let reading = read_into (so.places - 1) t in
          let end : play_reading (read_into so.places rest) (length block - size) here ≡ ended number here =
          ap (λ x. play_reading x (length block - size) here) more
          ∙ play_full order reading.orders reading.refusal (length block - size) here full
          ∙ ap (λ n. ended n here) (sym (same_number ∙ known.1))
          in
          let found = ends number end in
          (rw same found.0, ap (λ r. r.state.world) stood ∙ found.1)
