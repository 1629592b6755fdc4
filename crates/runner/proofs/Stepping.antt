-- Steps one after the other.
use Rattle.std.proofs.Common.{◌≡◌, ℕ, zero, suc, ◌+◌, ◌-◌, ◌<◌, ◌≤◌, Bool, true, false, eqb, ◌++◌, Result, sym, refl, ap, ◌∙◌, arith}
use Rattle.std.proofs.lemmas.Bool.{cond-true, cond-false}
use Rattle.std.specs.Int.{from_bool}
use Rattle.std.specs.Option.{option_to_list}
use Rattle.tape.specs.Tapes.{room}
use Rattle.controller.specs.declared.event.Event.{Event}
use Rattle.controller.specs.declared.fault.Fault.{Fault}
use Rattle.controller.specs.Outside.{Outside, Does}
use Rattle.controller.specs.Steps.{State, step_of}
use Rattle.script.specs.Commands.{Step}
use Rattle.runner.specs.Told as told
use Rattle.runner.specs.Notices.{notice_of, is_transfer}
use Rattle.runner.specs.declared.desk.Desk.{Desk}
use Rattle.runner.specs.Plays.{Run, run_at, is_full, step_once, no_steps, after, one, steps_of, played}

-- no cell is free
pub full_room : (d : Desk) (o : Outside) → is_full (run_at d o) ≡ eqb (room d.notices) 0
unfolding room
full_room d o = refl

-- one step, with its notice last
pub once : (r : Run) {s : State} {e : Result Event Fault} → Does (step_of r.state) s e → Does (step_once r) (record { state = s; notices = r.notices ++ option_to_list (notice_of e); cells = r.cells }) (is_transfer e)
unfolding step_once
once r does = record {
  state = λ i. record { state = does.state i; notices = r.notices ++ option_to_list (notice_of (does.answer i)); cells = r.cells };
  answer = ap is_transfer does.answer;
}

-- no step, a step with a full tape, and a step without
steps_none : (r : Run) → steps_of 0 r ≡ no_steps r
unfolding steps_of
steps_none r = refl

steps_full : (n : ℕ) (r : Run) → is_full r ≡ true → steps_of n r ≡ no_steps r
unfolding steps_of
steps_full zero r full = refl
steps_full (suc n) r full = cond-true _ _ _ full

steps_one : (n m : ℕ) (r : Run) → n ≡ suc m → is_full r ≡ false → steps_of n r ≡ after 1 (one (step_once r).1) (steps_of m (step_once r).0)
unfolding steps_of
steps_one n m r e free = ap (λ k. steps_of k r) e ∙ cond-false _ _ _ free

-- a step counts as the number of its answer
pub one_is : (moved : Bool) → from_bool moved ≡ one moved
one_is true = refl
one_is false = refl

-- some steps of a row are done, and the others go on from where they led
pub record Stepping (count : ℕ) (first here : Run) (steps transfers : ℕ) : Type 0 where
  pub row : steps_of count first ≡ after steps transfers (steps_of (count - steps) here)
  pub within : steps ≤ count
  pub fewer : transfers ≤ steps

module _ {count : ℕ} {first here : Run} {steps transfers : ℕ} (so : Stepping count first here steps transfers) where
  counted : (moved : Bool) → transfers + one moved ≤ steps + 1
  counted true = omega (arith, so.fewer)
  counted false = omega (arith, so.fewer)

  pub stepping_more : {next : Run} {moved : Bool} {sum : ℕ} → steps < count → is_full here ≡ false → Does (step_once here) next moved → sum ≡ transfers + one moved → Stepping count first next (steps + 1) sum
  stepping_more {next} {moved} {sum} some free does counts =
      let left : count - steps ≡ suc (count - (steps + 1)) = omega arith in
      let rest = steps_of (count - (steps + 1)) next in
      let n : steps + (1 + rest.steps) ≡ steps + 1 + rest.steps = omega arith in
      let m : transfers + (one moved + rest.transfers) ≡ sum + rest.transfers = omega arith in
      record {
        row = so.row
            ∙ ap (after steps transfers)
            (steps_one (count - steps) (count - (steps + 1)) here left free
            ∙ (λ i. after 1 (one (sym does.answer i)) (steps_of (count - (steps + 1)) (sym does.state i))))
            ∙ (λ i. record { run = rest.run; steps = n i; transfers = m i });
        within = omega arith;
        fewer = rw counts (counted moved);
      }

  -- the row is done
  ends : steps_of (count - steps) here ≡ no_steps here → Does (played (Step count) first) here (told.Step steps transfers)
  ends end =
      let n : steps + 0 ≡ steps = omega arith in
      let m : transfers + 0 ≡ transfers = omega arith in
      let all : steps_of count first ≡ record { run = here; steps = steps; transfers = transfers } =
      so.row ∙ ap (after steps transfers) end ∙ (λ i. record { run = here; steps = n i; transfers = m i }) in
      record { state = ap (λ s. s.run) (sym all); answer = ap (λ s. told.Step s.steps s.transfers) (sym all) }

  pub stepping_full : is_full here ≡ true → Does (played (Step count) first) here (told.Step steps transfers)
  stepping_full full = ends (steps_full (count - steps) here full)

  pub stepping_done : count ≤ steps → Does (played (Step count) first) here (told.Step count transfers)
  stepping_done done =
      let none : count - steps ≡ 0 = omega arith in
      let all : count ≡ steps = omega (arith, so.within) in
      let row = ends (ap (λ k. steps_of k here) none ∙ steps_none here) in
      record { state = row.state; answer = ap (λ n. told.Step n transfers) all ∙ row.answer }
