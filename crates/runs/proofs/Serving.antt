-- Serving a channel leaves the slots last chosen in both groups: only a choice notes them.
use Rattle.std.proofs.Common.{◌≡◌, ℕ, Option, refl, ◌∙◌}
use Rattle.std.proofs.lemmas.Bool.{cond_both}
use Rattle.controller.specs.declared.grant.Cycle.{Cycle}
use Rattle.controller.specs.Grants.{holds, after_cycle, released}
use Rattle.controller.specs.Steps.{State, serve, ahead_of}
use Rattle.runs.proofs.Lasts.{lasts, channel_stays}
use Rattle.runs.proofs.Stepping.{Keeps, Any, serve_keeps, ahead_keeps}

-- the slots last chosen are these
abbrev At : ℕ × ℕ → State → Type 0
At l s = lasts s.registers ≡ l

at_keeps : (l : ℕ × ℕ) → Keeps (At l) Any
at_keeps l = record {
  put = λ s c x h. channel_stays c x s.registers ∙ h;
  serves = λ s c g h. h;
  idles = λ s h. h;
  carries = λ s o h. h;
  sends = λ s c h. h;
}

pub serve_leaves : (s : State) (c : ℕ) → lasts (serve s c).0.registers ≡ lasts s.registers
serve_leaves s c = let l = lasts s.registers in serve_keeps (At l) Any (at_keeps l) s c tt refl

pub ahead_leaves : (s : State) (o : Option ℕ) → lasts (ahead_of s o).0.registers ≡ lasts s.registers
ahead_leaves s o = let l = lasts s.registers in ahead_keeps (At l) Any (at_keeps l) s o refl

-- so do a bus master's cycles and its release
pub cycle_leaves : (s : State) (g : ℕ) (x : Cycle) → lasts (after_cycle g x s).registers ≡ lasts s.registers
cycle_leaves s g x = cond_both (holds s.bus g) _ _ (At (lasts s.registers)) (λ _. refl) (λ _. refl)

pub release_leaves : (s : State) (g : ℕ) → lasts (released g s).registers ≡ lasts s.registers
release_leaves s g = cond_both (holds s.bus g) _ _ (At (lasts s.registers)) (λ _. refl) (λ _. refl)
