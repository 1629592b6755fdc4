-- A block filled command by command.
use Rattle.std.proofs.Common.{◌≡◌, ℕ, ◌+◌, ◌-◌, ◌<◌, ◌≤◌, List, [], ◌∷◌, ◌++◌, length, take, drop, Some, None, Ok, Err, Option, sym, refl, ap, ◌∙◌, arith}
use borrow.Rule.Slice.PartMut.{put_mid}
use Rattle.std.specs.List.{AllByRecursion as All}
use Rattle.std.proofs.ByRecursion.{All-push}
use Rattle.std.proofs.lemmas.List.{append-nil, append_assoc, flat_map_more, length-append, length-take, length-drop, take_rest, take_all, take_at, drop_at, drop_all, drop-drop}
use Rattle.std.proofs.lemmas.Bool.{cond-true, cond-false, lt-ltb, le-ltb}
use Rattle.std.proofs.lemmas.Bool.Decides.{nat_tests}
use Rattle.script.specs.declared.fault.ScriptFault.{ScriptFault}
use Rattle.script.specs.Commands.{Order, bytes_of, script_of}
use Rattle.script.specs.Faults.{number_of, refusal_of}
use Rattle.script.specs.Laws.{CommandReadsBack, ScriptReadsBack}
use Rattle.script.specs.Writes.{size_in, block_after, fitting, refused_in}
use Rattle.script.proofs.Rows.{script_reads_back}

-- A command that finds place, and one that does not.
fits_one : (n : ℕ) (order : Order) (orders : List Order) → length (bytes_of order) ≤ n → fitting n (order ∷ orders) ≡ order ∷ fitting (n - length (bytes_of order)) orders
unfolding fitting
fits_one n order orders place = cond-false _ _ _ (le-ltb n (length (bytes_of order)) place)

fits_none : (n : ℕ) (order : Order) (orders : List Order) → n < length (bytes_of order) → fitting n (order ∷ orders) ≡ []
unfolding fitting
fits_none n order orders full = cond-true _ _ _ (lt-ltb n (length (bytes_of order)) full)

fits_end : (n : ℕ) → fitting n [] ≡ []
unfolding fitting
fits_end n = refl

-- What an answer says of the place.
size_ok : (block bytes : List ℕ) (k : ℕ) → Ok k ≡ size_in block bytes → (length bytes ≤ length block) × (k ≡ length bytes)
size_ok block bytes k answer = grind (arith, nat_tests)

size_refused : (block bytes : List ℕ) (number : ℕ) → Err number ≡ size_in block bytes → (length block < length bytes) × (number ≡ 53)
size_refused block bytes number answer = grind (arith, nat_tests)

-- The first i commands of a row written into a block that was `first`, as `size` bytes.
pub record Filling (first : List ℕ) (orders : List Order) (i size : ℕ) (block : List ℕ) : Type 0 where
  pub fits : fitting (length first) orders ≡ take i orders ++ fitting (length first - size) (drop i orders)
  pub sized : size ≡ length (script_of (take i orders))
  pub within : size ≤ length first
  pub filled : block ≡ script_of (take i orders) ++ drop size first
  pub back : All CommandReadsBack (take i orders)

module _ (first : List ℕ) (orders : List Order) (i size : ℕ) (block : List ℕ) (so : Filling first orders i size block) where
  -- What is left of the block, and the block once that is changed.
  part_is : take (length block - size) (drop size block) ≡ drop size first
  part_is = take_rest block size ∙ ap (drop size) so.filled ∙ drop_at (script_of (take i orders)) (drop size first) size (sym so.sized)

  block_is : (part : List ℕ) → put_mid size (length block - size) block part ≡ script_of (take i orders) ++ part
  block_is part =
      let start : take size block ≡ script_of (take i orders) = ap (take size) so.filled ∙ take_at (script_of (take i orders)) (drop size first) size (sym so.sized) in
      let none : drop (length block - size) (drop size block) ≡ [] = drop_all (length block - size) (drop size block) (simp length-drop (omega arith)) in
      ap (λ u. u ++ (part ++ drop (length block - size) (drop size block))) start
      ∙ ap (λ u. script_of (take i orders) ++ u) (ap (λ u. part ++ u) none ∙ append-nil part)

  ends : fitting (length first - size) (drop i orders) ≡ [] → fitting (length first) orders ≡ take i orders
  ends end = so.fits ∙ ap (λ u. take i orders ++ u) end ∙ append-nil (take i orders)

  -- Where the commands so far are all that fit, they are what was written, and read back.
  abbrev pub WrittenAs : Option ScriptFault → Type 0
  WrittenAs fault =
      record {
        done : size ≡ length (script_of (fitting (length first) orders));
        refusal : refusal_of fault ≡ refused_in (length first) orders;
        block : block ≡ script_of (fitting (length first) orders) ++ drop size first;
        whole : fault ≡ None → fitting (length first) orders ≡ orders;
        reads_back : ScriptReadsBack (fitting (length first) orders);
      }

  written_as : (fault : Option ScriptFault) → refusal_of fault ≡ refused_in (length first) orders → (fault ≡ None → fitting (length first) orders ≡ orders) → fitting (length first) orders ≡ take i orders → WrittenAs fault
  written_as fault refusal whole end =
      record {
        done = so.sized ∙ ap (λ os. length (script_of os)) (sym end);
        refusal = refusal;
        block = so.filled ∙ ap (λ os. script_of os ++ drop size first) (sym end);
        whole = whole;
        reads_back = rw end (script_reads_back (take i orders) so.back);
      }

  pub written_some : (fault : ScriptFault) → number_of fault ≡ 53 → i < length orders → fitting (length first) orders ≡ take i orders → WrittenAs (Some fault)
  written_some fault number more end =
      let short = lt-ltb (length (fitting (length first) orders)) (length orders) (rw end (simp length-take (omega arith))) in
      written_as (Some fault) (number ∙ sym (cond-true _ _ _ short)) (λ none. cc) end

  -- At the row's end all of it is written.
  pub written_all : length orders ≤ i → WrittenAs None
  written_all all =
      let end = ends (ap (fitting (length first - size)) (drop_all i orders all) ∙ fits_end (length first - size)) in
      let long = le-ltb (length (fitting (length first) orders)) (length orders) (rw end (simp length-take (omega arith))) in
      written_as None (sym (cond-false _ _ _ long)) (λ none. end ∙ take_all i orders all) end

  module _ (order : Order) (here : drop i orders ≡ order ∷ drop (i + 1) orders) (front : take (i + 1) orders ≡ take i orders ++ order ∷ []) (part : List ℕ) (is_part : part ≡ block_after (take (length block - size) (drop size block)) (bytes_of order)) where
    script_more : script_of (take i orders) ++ bytes_of order ≡ script_of (take (i + 1) orders)
    script_more = flat_map_more bytes_of [] (take i orders) order ∙ ap script_of (sym front)

    pub filling_more : (k : ℕ) → Ok k ≡ size_in (take (length block - size) (drop size block)) (bytes_of order) → CommandReadsBack order → Filling first orders (i + 1) (size + k) (put_mid size (length block - size) block part)
    filling_more k answer back =
        let bytes = bytes_of order in
        let known = size_ok (take (length block - size) (drop size block)) bytes k answer in
        let place : length bytes ≤ length first - size = simp length-drop at (rw part_is at known.0) in
        let past : part ≡ bytes ++ drop k (drop size first) = is_part ∙ cond-false _ _ _ (le-ltb _ _ known.0) ∙ (cc (part_is, known.1)) in
        record {
          fits =
              let left : length first - size - length bytes ≡ length first - (size + k) = omega arith in
              cc (
                so.fits,
                fits_one (length first - size) order (drop (i + 1) orders) place,
                append_assoc (take i orders) (order ∷ []) (fitting (length first - size - length bytes) (drop (i + 1) orders)),
              );
          sized = omega (arith, so.sized, known.1, sym (length-append (script_of (take i orders)) bytes) ∙ ap length script_more);
          within = omega (arith, so.within, known.1);
          filled = cc (block_is part, past, append_assoc (script_of (take i orders)) bytes (drop k (drop size first)), script_more, drop-drop k size first);
          back = rw front (All-push CommandReadsBack (take i orders) order so.back back);
        }

    -- A command without place leaves all as it was, and is not among those that fit.
    pub filling_full : (number : ℕ) → Err number ≡ size_in (take (length block - size) (drop size block)) (bytes_of order) → (fitting (length first) orders ≡ take i orders) × (Filling first orders i size (put_mid size (length block - size) block part)) × (number ≡ 53)
    filling_full number answer =
        let known = size_refused (take (length block - size) (drop size block)) (bytes_of order) number answer in
        let full : length first - size < length (bytes_of order) = simp length-drop at (rw part_is at known.0) in
        let past : part ≡ drop size first = is_part ∙ cond-true _ _ _ (lt-ltb _ _ known.0) ∙ part_is in (
          ends (ap (fitting (length first - size)) here ∙ fits_none (length first - size) order (drop (i + 1) orders) full),
          record { fits = so.fits; sized = so.sized; within = so.within; filled = block_is part ∙ ap (λ u. script_of (take i orders) ++ u) past; back = so.back },
          known.1,
        )
