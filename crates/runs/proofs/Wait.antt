-- Waiting: while a channel asks, each service of another that begins brings it nearer.
use Rattle.std.proofs.Common.{◌≡◌, ℕ, ◌+◌, ◌-◌, ◌<◌, ◌≤◌, Bool, true, false, cond, eqb, ◌≢◌, List, [], ◌∷◌, take, drop, Some, None, Option, refl, subst, arith}
use Rattle.std.proofs.lemmas.Bool.{eqb-false}
use Rattle.arbiter.specs.declared.groups.Choice.{Choice}
use Rattle.arbiter.proofs.Chosen.{gap_bound}
use Rattle.arbiter.proofs.Winners.{distance_bound}
use Rattle.registers.specs.declared.file.Registers.{Registers}
use Rattle.registers.specs.declared.ports.Dma.{Dma}
use Rattle.controller.specs.declared.controller.Bus.{Bus}
use Rattle.controller.specs.declared.controller.Bus.TheVariants.{Home, Out, Taken}
use Rattle.controller.specs.Asking.{asks}
use Rattle.controller.specs.Grants.{out_to}
use Rattle.controller.specs.Steps.{State, with_registers, begun, choice_of, choose_of, ongoing, go_or_choose, step_at}
use Rattle.runs.specs.declared.calls.Call.{Call}
use Rattle.runs.specs.declared.calls.Call.TheVariants as call
use Rattle.runs.specs.Calls.{run, ended, performed}
use Rattle.runs.specs.Words.{chosen_channel, unless_ongoing, begun_at, service_in}
use Rattle.runs.specs.Law.{Asking, KeepsAsking, waited, others_first, Waiting}
use Rattle.runs.proofs.Runs.{drop-run, take-run, kept}
use Rattle.runs.proofs.Lasts.{lasts, Left, stay, clear, write_left, read_stays, lines_stay}
use Rattle.runs.proofs.Serving.{serve_leaves, cycle_leaves, release_leaves}
use Rattle.runs.proofs.Chosen.{Slots, slots_kept}
use Rattle.runs.proofs.Nearer.{first_away, second_away, Nearer, cleared_by, first_nearer, second_nearer, first_cleared, second-cleared}

-- ONE CALL --------------------------------------------------------------------------------------------------------

-- a channel, how many choices can come before it, and what choices and master clears do to that
module _ (c : ℕ) (away : ℕ × ℕ → ℕ)
    (nears : (s : State) → Slots (lasts s.registers) → Asking c s → Nearer c away s.registers (choice_of s.registers))
    (clears : (k : Registers) (d : Dma) (o : Option ℕ) → asks (cleared_by d o k) c ≡ true → away (lasts (cleared_by d o k)) ≡ away (lasts k)) where
  -- what can still come first after a call, and the service that the call begins, could come first before it
  abbrev Falls : Registers → Option ℕ → Registers → Type 0
  Falls k o m = (n : ℕ) → n ≤ away (lasts m) → waited c o n ≤ away (lasts k)

  falls_stay : {l m : ℕ × ℕ} → m ≡ l → (n : ℕ) → n ≤ away m → n ≤ away l
  falls_stay e n h = subst (λ x. n ≤ away x) e h

  falls_left : (k m : Registers) → Left k m → asks m c ≡ true → Falls k None m
  falls_left k m (stay e) a n h = falls_stay e n h
  falls_left k m (clear d o) a n h = omega (arith, clears k d o a)

  falls_other : (d n x y : ℕ) (q : Bool) → eqb c d ≡ q → (c ≢ d → x + 1 ≤ y) → n ≤ x → cond q 0 (1 + n) ≤ y
  falls_other d n x y true q f h = omega arith
  falls_other d n x y false q f h = omega (arith, f (eqb-false c d q))

  falls_chosen : (s : State) (r : Option Choice) → Nearer c away s.registers r → Falls s.registers (chosen_channel r) (choose_of s r).0.registers
  falls_chosen s None f n h = absurd f
  falls_chosen s (Some w) f n h =
      let k = s.registers in
      falls_other w.channel n (away (lasts (begun w k))) (away (lasts k)) (eqb c w.channel) refl f
      (falls_stay (serve_leaves (with_registers (begun w k) s) w.channel) n h)

  falls_go : (s : State) (o : Option ℕ) → Nearer c away s.registers (choice_of s.registers)
      → Falls s.registers (unless_ongoing o (chosen_channel (choice_of s.registers))) (go_or_choose s o).0.registers
  falls_go s (Some d) f = falls_stay (serve_leaves s d)
  falls_go s None f = falls_chosen s (choice_of s.registers) f

  falls_step : (s : State) (b : Bus) → Nearer c away s.registers (choice_of s.registers) → Falls s.registers (begun_at s b) (step_at s b).0.registers
  falls_step s Home f = falls_go s (ongoing s.registers s.registers.service) f
  falls_step s (Out d) f = λ n h. h
  falls_step s (Taken d) f = λ n h. h

  falls : (s : State) (k : Call) → Slots (lasts s.registers) → Asking c s → Asking c (performed s k).0
      → Falls s.registers (service_in s k) (performed s k).0.registers
  falls s (call.Write p v) l a b = falls_left s.registers _ (write_left p v s.registers) b.0
  falls s (call.Read p) l a b = falls_stay (read_stays p s.registers)
  falls s (call.Lines v) l a b = falls_stay (lines_stay v s.registers)
  falls s call.Step l a b = falls_step s s.bus (nears s l a)
  falls s (call.Inspect d) l a b = λ n h. h
  falls s call.Take l a b = λ n h. h
  falls s (call.Cycle x) l a b = falls_stay (cycle_leaves s (out_to s.bus) x)
  falls s call.Release l a b = falls_stay (release_leaves s (out_to s.bus))

  -- no more others come first in a row than could at its start
  row : (s : State) (ks : List Call) → Slots (lasts s.registers) → KeepsAsking c (run s ks) → others_first c (run s ks) ≤ away (lasts s.registers)
  row s [] l a = omega arith
  row s (k ∷ ks) l a =
      falls s k l a.0 a.1 (others_first c (run (performed s k).0 ks)) (row (performed s k).0 ks (slots_kept s k l) a.2)

  -- so in each row of a run
  rows : (s : State) (ks : List Call) (i n bound : ℕ) → ((l : ℕ × ℕ) → away l ≤ bound) → Slots (lasts s.registers)
      → KeepsAsking c (take n (drop i (run s ks))) → others_first c (take n (drop i (run s ks))) ≤ bound
  rows s ks i n bound most l =
      let t = ended s (take i ks) in
      let small = kept (λ x. Slots (lasts x.registers)) slots_kept s (take i ks) l in
      rw (drop-run, take-run) (λ a. omega (arith, most (lasts t.registers), row t (take n (drop i ks)) small a))

-- THE BOUNDS ------------------------------------------------------------------------------------------------------

-- in every run, from slots last chosen: channels 5 to 7 wait for at most three others, 0 to 3 for at most fifteen
second_waits : (s : State) (ks : List Call) → Slots (lasts s.registers) → (m i n : ℕ) → 0 < m → m < 4
    → KeepsAsking (m + 4) (take n (drop i (run s ks))) → others_first (m + 4) (take n (drop i (run s ks))) ≤ 3
second_waits s ks l m i n p h =
    rows (m + 4) (second_away m) (λ t. second_nearer t m p h) (λ k d o. second-cleared k d o m h) s ks i n 3 (λ x. gap_bound m x.1) l

first_waits : (s : State) (ks : List Call) → Slots (lasts s.registers) → (c i n : ℕ) → c < 4
    → KeepsAsking c (take n (drop i (run s ks))) → others_first c (take n (drop i (run s ks))) ≤ 15
first_waits s ks l c i n h =
    rows c (first_away c) (λ t. first_nearer t c h) (λ k d o. first_cleared k d o c h) s ks i n 15 (λ x. distance_bound c x.0 x.1) l

pub waiting : (s : State) (ks : List Call) → s.registers.first.last < 4 → s.registers.second.last < 4 → Waiting (run s ks)
waiting s ks f g =
    let l : Slots (lasts s.registers) = (f, g) in
    record {
      second = λ c i n p h.
          let e : c - 4 + 4 ≡ c = omega arith in
          subst (λ x. KeepsAsking x (take n (drop i (run s ks))) → others_first x (take n (drop i (run s ks))) ≤ 3) e
          (second_waits s ks l (c - 4) i n (omega arith) (omega arith));
      first = first_waits s ks l;
    }
