-- A plain job passes the addresses of its plan, and signals with the last alone.
use Rattle.std.proofs.Common.{◌≡◌, ℕ, suc, ◌+◌, ◌-◌, ◌<◌, ◌≤◌, Bool, true, false, cond, eqb, List, [], ◌∷◌, length, is_some, Some, sym, refl, ap, ◌∙◌, subst, zero-add, arith}
use Rattle.std.proofs.lemmas.Bool.{true≢false as never}
use Rattle.bus.specs.Plan.{planned, plan}
use Rattle.bus.proofs.Plans.{planned_next, length-plan, get_or-plan}
use Rattle.registers.specs.declared.channel.Channel.{Channel}
use Rattle.registers.specs.File.{channel_of}
use Rattle.controller.specs.Passing.{course_of, passed, with_current, stepped}
use Rattle.controller.specs.Steps.{State}
use Rattle.runs.specs.declared.calls.Call.{Call}
use Rattle.runs.specs.Calls.{run, ended, performed}
use Rattle.runs.specs.Words.{Move, move_of, begins_job}
use Rattle.runs.specs.Law.{NoneBegins, transfers, PlainJob}
use Rattle.runs.proofs.Runs.{turn_of}
use Rattle.runs.proofs.Parts.{Part, part_of}
use Rattle.runs.proofs.Turns.{Effect, still, closes, moves, fetches_one, effect, move_passes, begins_signals}
use Rattle.runs.proofs.Sound.{Sound, sound_kept}

-- what is left of a plain job: so many transfers after the next one, at these addresses
pub record Left (ch : Channel) (n : ℕ) (f : ℕ → ℕ) : Type 0 where
  pub inactive : ch.list.active ≡ false
  pub count : ch.current.count ≡ n
  pub address : (j : ℕ) → planned (course_of ch) ch.current.place j ≡ f j

-- it depends on the plan's part of the registers alone
same_left : (ch ch' : Channel) (n : ℕ) (f : ℕ → ℕ) → part_of ch' ≡ part_of ch → Left ch n f → Left ch' n f
same_left ch ch' n f e l = record {
  inactive = ap (λ (p : Part). p.active) e ∙ l.inactive;
  count = ap (λ (p : Part). p.current.count) e ∙ l.count;
  address = λ j. ap (λ (p : Part). planned (record { addressing = p.addressing; extended = p.extended; decrement = p.mode.decrement }) p.current.place j) e ∙ l.address j;
}

-- a transfer that does not signal leaves one fewer
passed_plain : (ch : Channel) (n : ℕ) (f : ℕ → ℕ) → Left ch n f → is_some (passed ch).signal ≡ eqb n 0
passed_plain ch n f l = go (eqb n 0) refl
  where
    c₀ : eqb ch.current.count 0 ≡ eqb n 0
    c₀ = ap (λ x. eqb x 0) l.count

    go : (q : Bool) → eqb n 0 ≡ q → is_some (passed ch).signal ≡ q
    go true q = rw (c₀ ∙ q, l.inactive)
    go false q = rw (c₀ ∙ q)

pub left_next : (ch : Channel) (n : ℕ) (f : ℕ → ℕ) → Left ch n f → eqb n 0 ≡ false → Left (passed ch).channel (n - 1) (λ j. f (1 + j))
left_next ch n f l q =
    let z : eqb ch.current.count 0 ≡ false = ap (λ x. eqb x 0) l.count ∙ q in
    let L : Channel → Type 0 = λ x. Left x (n - 1) (λ j. f (1 + j)) in
    let here : (passed ch).channel ≡ with_current (stepped ch) ch = rw z in
    subst L (sym here) (record {
      inactive = l.inactive;
      count = rw z (ap (λ x. x - 1) l.count);
      address = λ j. sym (planned_next (course_of ch) ch.current.place j) ∙ l.address (j + 1) ∙ ap f (omega arith);
    })

-- what is left after n' transfers of a row
abbrev Remains : State → ℕ → ℕ → (ℕ → ℕ) → ℕ → Type 0
Remains s c n f done = (done ≤ n) × Left (channel_of s.registers c) (n - done) (λ j. f (done + j)) × Sound s.registers

one_less : (s : State) (c n : ℕ) (f : ℕ → ℕ) (done : ℕ) → eqb n 0 ≡ false → Remains s c (n - 1) (λ j. f (1 + j)) done → Remains s c n f (1 + done)
one_less s c n f done q r =
    let a = r.0 in
    let pos : 0 < n = grind arith in (
      omega arith,
      record { inactive = r.1.inactive; count = r.1.count ∙ omega arith; address = λ j. r.1.address j ∙ ap f (omega arith) },
      r.2,
    )

module _ (c : ℕ) (hc : c < 8) where
  row_more : (s : State) (k : Call) (ks : List Call) (n : ℕ) (f : ℕ → ℕ) → begins_job c (turn_of s k) ≡ false → Left (channel_of s.registers c) n f
      → Effect c (turn_of s k)
      → ((n' : ℕ) (f' : ℕ → ℕ) → Left (channel_of (performed s k).0.registers c) n' f' → Remains (ended s (k ∷ ks)) c n' f' (transfers c (run (performed s k).0 ks)))
      → Remains (ended s (k ∷ ks)) c n f (transfers c (run s (k ∷ ks)))
  row_more s k ks n f b l (still m g st p) rest =
      let P : ℕ → Type 0 = λ d. Remains (ended s (k ∷ ks)) c n f (d + transfers c (run (performed s k).0 ks)) in
      let none : cond (is_some (move_of c (turn_of s k))) 1 0 ≡ 0 = rw m in
      let Q : ℕ → Type 0 = λ d. Remains (ended s (k ∷ ks)) c n f d in
      subst P (sym none) (subst Q (sym (zero-add (transfers c (run (performed s k).0 ks)))) (rest n f (same_left _ _ n f p l)))
  row_more s k ks n f b l (closes m g st a ld p) rest = absurd (never (sym a ∙ l.inactive))
  row_more s k ks n f b l (moves m i g st a sg ch r) rest =
      let quiet : eqb n 0 ≡ false = sym (passed_plain _ n f l) ∙ ap is_some (sym sg) ∙ sym (begins_signals c hc s k m i) ∙ b in
      let P : ℕ → Type 0 = λ d. Remains (ended s (k ∷ ks)) c n f (d + transfers c (run (performed s k).0 ks)) in
      let one : cond (is_some (move_of c (turn_of s k))) 1 0 ≡ 1 = rw i in
      let L : Channel → Type 0 = λ x. Left x (n - 1) (λ j. f (1 + j)) in
      subst P (sym one) (one_less (ended s (k ∷ ks)) c n f _ quiet (rest (n - 1) (λ j. f (1 + j)) (subst L (sym ch) (left_next _ n f l quiet))))
  row_more s k ks n f b l (fetches_one x m g st e ch can w) rest = absurd (never (sym can.0 ∙ l.inactive))

  plain_row : (s : State) (ks : List Call) (n : ℕ) (f : ℕ → ℕ) → Sound s.registers → NoneBegins c (run s ks) → Left (channel_of s.registers c) n f
      → Remains (ended s ks) c n f (transfers c (run s ks))
  plain_row s [] n f h b l =
      (omega arith, record { inactive = l.inactive; count = l.count ∙ omega arith; address = λ j. l.address j ∙ ap f (omega arith) }, h)
  plain_row s (k ∷ ks) n f h b l =
      row_more s k ks n f b.0 l (effect c hc s k h b.0) (λ n' f' l'. plain_row (performed s k).0 ks n' f' (sound_kept s k h) b.1 l')

  -- the registers at a job's start are what is left of it
  at_start : (ch : Channel) → ch.list.active ≡ false → Left ch ch.current.count (planned (course_of ch) ch.current.place)
  at_start ch e = record { inactive = e; count = refl; address = λ j. refl }

  signal_last : (n d : ℕ) → d ≤ n → eqb (n - d) 0 ≡ eqb (d + 1) (suc n)
  signal_last n d h = grind arith

  pub plain_job : (s : State) (ks : List Call) (k : Call) (m : Move) → Sound s.registers → NoneBegins c (run s ks) → move_of c (turn_of (ended s ks) k) ≡ Some m
      → PlainJob c s (run s ks) m
  plain_job s ks k m h b e off =
      let ch = channel_of s.registers c in
      let done = transfers c (run s ks) in
      let n = ch.current.count in
      let f = planned (course_of ch) ch.current.place in
      let r = plain_row s ks n f h b (at_start ch off) in
      let p = move_passes c hc (ended s ks) k m r.2 e in
      let below : done < suc n = (let q = r.0 in omega arith) in
      let long : length (plan (course_of ch) ch.current.place (suc n)) ≡ suc n = length-plan (course_of ch) ch.current.place (suc n) in
      record {
        within = rw long below;
        address = p.0 ∙ r.1.address 0 ∙ ap f (omega arith) ∙ sym (get_or-plan (course_of ch) ch.current.place (suc n) done below);
        signals = ap is_some p.1 ∙ passed_plain _ (n - done) _ r.1 ∙ signal_last n done r.0 ∙ ap (λ x. eqb (done + 1) x) (sym long);
      }
