-- Ramps.
use Rattle.std.proofs.Common.{◌≡◌, ℕ, zero, suc, ◌+◌, ◌-◌, ◌%◌, ◌<◌, true, List, [], ◌∷◌, length, map, get_or, set, Ok, refl, sym, ap, ◌∙◌, arith}
use mathlib.Core.Path.{fun_ext}
use Rattle.std.proofs.lemmas.List.{get_or-set_same, get_or-set_other}
use Rattle.std.proofs.lemmas.Bool.{cond-true}
use Rattle.std.proofs.lemmas.Bool.Decides.{nat_tests}
use Rattle.tape.specs.Lines.{rest_of}
use Rattle.memory.proofs.Views.{stored_by}
use Rattle.ports.specs.declared.ramps.Ramp.{Ramp}
use Rattle.ports.specs.Units.{is_channel, channel_of, taken}
use Rattle.ports.specs.Ramps.{ramp, ramp_units, no_ramp, ramps_from, counting}

pub ramp_none : (v n : ℕ) → n ≡ 0 → ramp v n ≡ []
unfolding ramp
ramp_none v zero h = refl
ramp_none v (suc n) h = absurd (omega arith)

pub ramp_some : (v n : ℕ) → 0 < n → ramp v n ≡ v ∷ ramp ((v + 1) % 65536) (n - 1)
unfolding ramp
ramp_some v zero h = absurd (omega arith)
ramp_some v (suc n) h = ap (λ m. v ∷ ramp ((v + 1) % 65536) m) (omega arith)

abbrev pub ramp_with : ℕ → ℕ → Ramp
ramp_with v n = record { next = v; left = n }

-- a bank with one unit fewer on the ramp of one channel
pub took : (ramps : List Ramp) (c : ℕ) (after : Ramp) → Ok tt ≡ channel_of c → length ramps ≡ 8 → ramp_units after ≡ rest_of (ramp_units (get_or ramps c no_ramp))
    → ramps_from (set ramps c after) ≡ taken c (ramps_from ramps)
took ramps c after known eight one =
    let h : is_channel c ≡ true = grind arith in
    let l : c < length ramps = grind (arith, nat_tests) in
    stored_by (ramps_from ramps) (ramps_from (set ramps c after)) c _
    (cond-true _ _ _ h ∙ ap ramp_units (get_or-set_same ramps c after no_ramp l) ∙ one ∙ ap rest_of (sym (cond-true _ _ _ h)))
    (λ k ne. rw (get_or-set_other ramps c k after no_ramp ne) refl)
    ∙ sym (cond-true _ _ _ h)

-- ramps that start at the channels' numbers
pub counts : (n : ℕ) → ramps_from (map (λ v. ramp_with v n) (0 ∷ 1 ∷ 2 ∷ 3 ∷ 4 ∷ 5 ∷ 6 ∷ 7 ∷ [])) ≡ counting n
counts n = fun_ext (λ k. grind (arith, nat_tests))
