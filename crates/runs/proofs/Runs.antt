-- A run of one call more, the parts of a run, and what holds of each call of a run.
use Rattle.std.proofs.Common.{◌≡◌, ℕ, zero, suc, List, [], ◌∷◌, ◌++◌, take, drop, refl, ap}
use Rattle.controller.specs.Steps.{State}
use Rattle.runs.specs.declared.calls.Call.{Call}
use Rattle.runs.specs.Calls.{Turn, run, ended, answers_of, performed}

-- the turn that a call makes
abbrev pub turn_of : State → Call → Turn
turn_of s k = record { before = s; call = k; answer = (performed s k).1; after = (performed s k).0 }

pub ended_push : (s : State) (ks : List Call) (k : Call) → ended s (ks ++ (k ∷ [])) ≡ (performed (ended s ks) k).0
ended_push s [] k = refl
ended_push s (j ∷ ks) k = ended_push (performed s j).0 ks k

pub answers_push : (s : State) (ks : List Call) (k : Call) → answers_of (run s (ks ++ (k ∷ []))) ≡ answers_of (run s ks) ++ ((performed (ended s ks) k).1 ∷ [])
answers_push s [] k = refl
answers_push s (j ∷ ks) k = ap (λ rs. (performed s j).1 ∷ rs) (answers_push (performed s j).0 ks k)

pub drop-run : (s : State) (ks : List Call) (i : ℕ) → drop i (run s ks) ≡ run (ended s (take i ks)) (drop i ks)
drop-run s [] zero = refl
drop-run s (k ∷ ks) zero = refl
drop-run s [] (suc i) = refl
drop-run s (k ∷ ks) (suc i) = drop-run (performed s k).0 ks i

pub take-run : (s : State) (ks : List Call) (i : ℕ) → take i (run s ks) ≡ run s (take i ks)
take-run s [] zero = refl
take-run s (k ∷ ks) zero = refl
take-run s [] (suc i) = refl
take-run s (k ∷ ks) (suc i) = ap (λ h. turn_of s k ∷ h) (take-run (performed s k).0 ks i)

-- what each call keeps, a run keeps
pub kept : (P : State → Type 0) → ((s : State) (k : Call) → P s → P (performed s k).0) → (s : State) (ks : List Call) → P s → P (ended s ks)
kept P each s [] p = p
kept P each s (k ∷ ks) p = kept P each (performed s k).0 ks (each s k p)
