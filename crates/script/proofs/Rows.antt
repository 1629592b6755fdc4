-- A script read command by command.
use Rattle.std.proofs.Common.{◌≡◌, ℕ, zero, suc, ◌-◌, ◌<◌, List, [], ◌∷◌, ◌++◌, length, Some, None, Ok, Err, sym, refl, ap, ◌∙◌, arith}
use Rattle.std.specs.List.{AllByRecursion as All}
use Rattle.std.proofs.lemmas.List.{append-nil, append_assoc, length_push}
use Rattle.script.specs.declared.fault.ScriptFault.TheVariants.{NoPlace}
use Rattle.script.specs.Commands.{Order, bytes_of, script_of}
use Rattle.script.specs.Faults.{number_of}
use Rattle.script.specs.Laws.{CommandReadsBack, ScriptReadsBack}
use Rattle.script.specs.Reads.{Reading, read_of, rest_of, read_full, read_more, read_into}
use Rattle.script.proofs.Reading.{rest_back}

-- Commands read before the rest of a script.
abbrev pub behind : List Order → Reading → Reading
behind orders more = record { orders = orders ++ more.orders; refusal = more.refusal }

-- The end or a refusal, whatever place there is.
read_end : (n : ℕ) (s : List ℕ) → Ok None ≡ read_of s → read_into n s ≡ record { orders = []; refusal = 0 }
unfolding read_into
read_end zero s read = ap read_full (sym read)
read_end (suc n) s read = ap (λ r. read_more r (read_into n (rest_of s))) (sym read)

read_refused : (n : ℕ) (s : List ℕ) (number : ℕ) → Err number ≡ read_of s → read_into n s ≡ record { orders = []; refusal = number }
unfolding read_into
read_refused zero s number read = ap read_full (sym read)
read_refused (suc n) s number read = ap (λ r. read_more r (read_into n (rest_of s))) (sym read)

-- A command, with a place and without one.
read_one : (n m : ℕ) (s : List ℕ) (order : Order) → n ≡ suc m → Ok (Some order) ≡ read_of s → read_into n s ≡ behind (order ∷ []) (read_into m (rest_of s))
unfolding read_into
read_one n m s order place read = ap (λ k. read_into k s) place ∙ ap (λ r. read_more r (read_into m (rest_of s))) (sym read)

read_full_lem : (n : ℕ) (s : List ℕ) (order : Order) → n ≡ 0 → Ok (Some order) ≡ read_of s → read_into n s ≡ record { orders = []; refusal = number_of NoPlace }
unfolding read_into
read_full_lem n s order full read = ap (λ k. read_into k s) full ∙ ap read_full (sym read)

-- A script reads back if each of its commands does.
pub script_reads_back : (orders : List Order) → All CommandReadsBack orders → ScriptReadsBack orders
script_reads_back [] back n places = read_end n [] refl
script_reads_back (order ∷ orders) back n places =
    let place : n ≡ suc (n - 1) = omega arith in
    let read = back.0 (script_of orders) in
    read_one n (n - 1) (bytes_of order ++ script_of orders) order place (sym read)
    ∙ ap (λ s. behind (order ∷ []) (read_into (n - 1) s)) (rest_back order (script_of orders) read)
    ∙ ap (behind (order ∷ [])) (script_reads_back orders back.1 (n - 1) (omega arith))

-- The commands read so far of a script, with n places for all of them, come before what is left.
abbrev pub Going : ℕ → List ℕ → List Order → List ℕ → Type 0
Going n script orders s = read_into n script ≡ behind orders (read_into (n - length orders) s)

module _ (n : ℕ) (script : List ℕ) (orders : List Order) (s : List ℕ) (so : Going n script orders s) where
  pub going_more : (order : Order) (t : List ℕ) → length orders < n → Ok (Some order) ≡ read_of s → t ≡ rest_of s → Going n script (orders ++ order ∷ []) t
  going_more order t place read rest =
      let m : ℕ = n - length (orders ++ order ∷ []) in
      let one : n - length orders ≡ suc m = simp length_push (omega arith) in
      so
      ∙ ap (behind orders) (read_one (n - length orders) m s order one read ∙ ap (λ u. behind (order ∷ []) (read_into m u)) (sym rest))
      ∙ ap (λ os. record { orders = os; refusal = (read_into m t).refusal }) (sym (append_assoc orders (order ∷ []) (read_into m t).orders))

  ends : (number : ℕ) → read_into (n - length orders) s ≡ record { orders = []; refusal = number } → read_into n script ≡ record { orders = orders; refusal = number }
  ends number end = so ∙ ap (behind orders) end ∙ ap (λ os. record { orders = os; refusal = number }) (append-nil orders)

  pub going_end : Ok None ≡ read_of s → read_into n script ≡ record { orders = orders; refusal = 0 }
  going_end read = ends 0 (read_end (n - length orders) s read)

  pub going_refused : (number : ℕ) → Err number ≡ read_of s → read_into n script ≡ record { orders = orders; refusal = number }
  going_refused number read = ends number (read_refused (n - length orders) s number read)

  pub going_full : (order : Order) → length orders ≡ n → Ok (Some order) ≡ read_of s → read_into n script ≡ record { orders = orders; refusal = number_of NoPlace }
  going_full order full read = ends (number_of NoPlace) (read_full_lem (n - length orders) s order (omega arith) read)
