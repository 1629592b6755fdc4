-- The parts of play's loop, over plain values.
use Rattle.std.proofs.Common.{◌≡◌, ℕ, ◌+◌, ◌<◌, ◌≤◌, List, [], ◌∷◌, ◌++◌, length, map, get_or, take, drop, set, sym, ap, ◌∙◌, subst, arith}
use Rattle.std.proofs.lemmas.List.{take_more, take_more_set, map_push, drop-set-lt, drop-drop, length-take-le, take_all}
use Rattle.controller.specs.Outside.{Outside, Does}
use Rattle.controller.specs.Steps.{State, fresh}
use Rattle.runs.specs.declared.calls.Call.{Call}
use Rattle.runs.specs.declared.calls.Answer.{Answer}
use Rattle.runs.specs.Told.{told_of}
use Rattle.runs.specs.Calls.{run, ended, answers_of, performed}
use Rattle.runs.specs.Law.{Law}
use Rattle.runs.proofs.Runs.{ended_push, answers_push}
use Rattle.runs.proofs.Carry.{carried}
use Rattle.runs.proofs.Wait.{waiting}
use Rattle.runs.proofs.Jobs.{planned}

-- the state and the answers after the first i calls
pub record Going (first s : State) (calls : List Call) (old answers : List Answer) (i : ℕ) : Type 0 where
  pub state : s ≡ ended first (take i calls)
  pub answered : map told_of (take i answers) ≡ answers_of (run first (take i calls))
  pub rest : drop i answers ≡ drop i old

-- one call more
pub one_more : (first s t : State) (calls : List Call) (old answers : List Answer) (i : ℕ) (d : Call) (r : Answer)
    → i < length calls → i < length answers → Going first s calls old answers i → Does (performed s (get_or calls i d)) t (told_of r)
    → Going first t calls old (set answers i r) (i + 1)
one_more first s t calls old answers i d r in_c in_a so_far does =
    let k = get_or calls i d in
    let done = take i calls in
    let more = take_more calls i d in_c in record {
      state = does.state ∙ ap (λ x. (performed x k).0) so_far.state ∙ sym (ended_push first done k) ∙ ap (ended first) (sym more);
      answered = ap (map told_of) (take_more_set answers i r in_a) ∙ map_push told_of (take i answers) r ∙ ap (λ l. l ++ (told_of r ∷ [])) so_far.answered
          ∙ ap (λ x. answers_of (run first done) ++ (x ∷ [])) (does.answer ∙ ap (λ x. (performed x k).1) so_far.state)
          ∙ sym (answers_push first done k) ∙ ap (λ l. answers_of (run first l)) (sym more);
      rest = drop-set-lt (i + 1) answers i r (omega arith) ∙ sym (drop-drop 1 i answers) ∙ ap (drop 1) so_far.rest ∙ drop-drop 1 i old;
    }

-- the loop has gone over the first n calls
pub gone : (first t : State) (calls : List Call) (old answers : List Answer) (i n : ℕ) → n ≤ length calls → i ≡ length (take n calls)
    → Going first t (take n calls) old answers i → Going first t calls old answers n
gone first t calls old answers i n h e so_far =
    let l = length-take-le n calls h in
    let z : i ≡ n = e ∙ l in
    let k = take_all n (take n calls) (omega (arith, l)) in
    record { state = rw (z, k) at so_far.state; answered = rw (z, k) at so_far.answered; rest = rw z at so_far.rest }

pub lawful : (o : Outside) (calls : List Call) (t : State) → t ≡ ended (fresh o) calls → Law (fresh o) (run (fresh o) calls) t
lawful o calls t e =
    let s = fresh o in
    let P : State → Type 0 = λ x. Law s (run s calls) x in
    subst P (sym e) (record { carried = carried s calls; planned = planned o calls; waiting = waiting s calls (omega arith) (omega arith) })
