-- What one turn of a run does to the plan of channel c while its job goes on.
use Rattle.std.proofs.Common.{◌≡◌, ℕ, ◌<◌, true, false, ◌⊎◌, is_some, Some, None, Ok, Option, sym, refl, ap, ◌∙◌, subst, inl}
use Rattle.std.proofs.lemmas.Bool.{cond_both}
use Rattle.std.proofs.lemmas.Option.{none-some}
use Rattle.arbiter.specs.declared.groups.Choice.{Choice}
use Rattle.registers.specs.declared.channel.Channel.{Channel}
use Rattle.registers.specs.Ports.{write_port, read_port}
use Rattle.registers.specs.File.{channel_of, written, with_service}
use Rattle.controller.specs.declared.controller.Bus.{Bus}
use Rattle.controller.specs.declared.controller.Bus.TheVariants.{Home, Out, Taken}
use Rattle.controller.specs.declared.fetching.Fetched.{Fetched as Found}
use Rattle.controller.specs.Passing.{passes, passed}
use Rattle.controller.specs.Asking.{first_fetching}
use Rattle.controller.specs.Fetching.{fetch_of as fetched_from, filled}
use Rattle.controller.specs.Grants.{holds, out_to}
use Rattle.controller.specs.Steps.{State, with_registers, begun, ahead_of, choose_of, choice_of, ongoing, go_or_choose, step_at, step_of}
use Rattle.runs.specs.declared.calls.Call.{Call}
use Rattle.runs.specs.declared.calls.Call.TheVariants as call
use Rattle.runs.specs.Calls.{Turn}
use Rattle.runs.specs.Words.{Move, move_of, fetch_of, stops, begins_job, signalled}
use Rattle.runs.proofs.Runs.{turn_of}
use Rattle.runs.proofs.Parts.{part_of}
use Rattle.runs.proofs.Ports.{port_reaches}
use Rattle.runs.proofs.Written.{with_stop, Accessed, quiet, halts, write_effect, read_leaves_lem, lined_leaves}
use Rattle.runs.proofs.Effects.{Ready, CanFetch, Stepped, rests, goes, gets, serve_steps, ahead_steps}
use Rattle.runs.proofs.Served.{begun_channel}
use Rattle.runs.proofs.Sound.{Serviced, Sound, chosen_below, Fetching, ahead_below, ongoing_below}

-- the registers of channel c before and after a turn
abbrev pub from : ℕ → Turn → Channel
from c t = channel_of t.before.registers c

abbrev pub to : ℕ → Turn → Channel
to c t = channel_of t.after.registers c

pub data Effect (c : ℕ) (t : Turn) : Type 0 where
  -- nothing
  still : move_of c t ≡ None → fetch_of c t ≡ None → (stops c t ≡ false) ⊎ ((from c t).list.active ≡ false) → part_of (to c t) ≡ part_of (from c t) → Effect c t
  -- a Stop that closes the list
  closes : move_of c t ≡ None → fetch_of c t ≡ None → stops c t ≡ true → (from c t).list.active ≡ true → (from c t).list.loaded ≡ true
      → part_of (to c t) ≡ with_stop (part_of (from c t)) → Effect c t
  -- a transfer
  moves : (m : Move) → move_of c t ≡ Some m → fetch_of c t ≡ None → stops c t ≡ false → m.address ≡ passes (from c t)
      → m.signal ≡ (passed (from c t)).signal → to c t ≡ (passed (from c t)).channel → Ready (from c t) → Effect c t
  -- a fetch
  fetches_one : (x : Found) → move_of c t ≡ None → fetch_of c t ≡ Some (from c t).list.next → stops c t ≡ false
      → fetched_from t.before.world.kinds t.before.world.bytes c (from c t).list ≡ Ok x
      → to c t ≡ filled x (from c t) → CanFetch (from c t) → t.after.world ≡ t.before.world → Effect c t

module _ (c : ℕ) (hc : c < 8) where
  ahead_step : (s : State) (o : Option ℕ) → first_fetching s.registers ≡ o → Sound s.registers
      → Stepped c (channel_of s.registers c) s.world (ahead_of (with_registers (with_service None s.registers) s) o)
  ahead_step s None e h = rests refl refl refl
  ahead_step s (Some d) e h =
      let P : Option ℕ → Type 0 = λ x. Fetching s.registers x in
      let f : Fetching s.registers (Some d) = subst P e (ahead_below s.registers) in
      ahead_steps c hc (with_registers (with_service None s.registers) s) d h.0 f.0 f.1

  choose_step : (s : State) (o : Option Choice) → choice_of s.registers ≡ o → Sound s.registers → Stepped c (channel_of s.registers c) s.world (choose_of s o)
  choose_step s (Some w) e h =
      let P : Channel → Type 0 = λ x. Stepped c x s.world (choose_of s (Some w)) in
      subst P (begun_channel w s.registers c) (serve_steps c hc (with_registers (begun w s.registers) s) w.channel h.0 (chosen_below s.registers w e))
  choose_step s None e h = ahead_step s (first_fetching s.registers) refl h

  go_step : (s : State) (o : Option ℕ) → Serviced o → Sound s.registers → Stepped c (channel_of s.registers c) s.world (go_or_choose s o)
  go_step s (Some d) b h = serve_steps c hc s d h.0 b
  go_step s None b h = choose_step s (choice_of s.registers) refl h

  at_step : (s : State) (b : Bus) → Sound s.registers → Stepped c (channel_of s.registers c) s.world (step_at s b)
  at_step s Home h = go_step s (ongoing s.registers s.registers.service) (ongoing_below s.registers s.registers.service h.1) h
  at_step s (Out d) h = rests refl refl refl
  at_step s (Taken d) h = rests refl refl refl

  pub step_effect : (s : State) → Sound s.registers → Stepped c (channel_of s.registers c) s.world (step_of s)
  step_effect s h = at_step s s.bus h

  by_step : (s : State) → Stepped c (channel_of s.registers c) s.world (step_of s) → Effect c (turn_of s call.Step)
  by_step s (rests m g p) = still m g (inl refl) p
  by_step s (goes m i g a sg ch r) = moves m i g refl a sg ch r
  by_step s (gets x m g e ch can w) = fetches_one x m g refl e ch can w

  by_write : (s : State) (p v : ℕ) → Accessed c s.registers (stops c (turn_of s (call.Write p v))) (written p v s.registers) → Effect c (turn_of s (call.Write p v))
  by_write s p v (quiet st h) = still refl refl st h
  by_write s p v (halts st a l h) = closes refl refl st a l h

  -- two states with one plan of channel c
  abbrev Same : State → State → Type 0
  Same s t = part_of (channel_of t.registers c) ≡ part_of (channel_of s.registers c)

  pub effect : (s : State) (k : Call) → Sound s.registers → begins_job c (turn_of s k) ≡ false → Effect c (turn_of s k)
  effect s (call.Write p v) h e = by_write s p v (write_effect s.registers c h.0 hc s (write_port p) v refl (port_reaches p) e)
  effect s (call.Read p) h e = still refl refl (inl refl) (read_leaves_lem s.registers c (read_port p))
  effect s (call.Lines b) h e = still refl refl (inl refl) (lined_leaves s.registers c b)
  effect s call.Step h e = by_step s (step_effect s h)
  effect s (call.Inspect d) h e = still refl refl (inl refl) refl
  effect s call.Take h e = still refl refl (inl refl) refl
  effect s (call.Cycle x) h e = still refl refl (inl refl) (cond_both (holds s.bus (out_to s.bus)) _ _ (Same s) (λ _. refl) (λ _. refl))
  effect s call.Release h e = still refl refl (inl refl) (cond_both (holds s.bus (out_to s.bus)) _ _ (Same s) (λ _. refl) (λ _. refl))

  -- a transfer, whether it ends its job or not
  abbrev pub Passes : Channel → Move → Type 0
  Passes ch m = (m.address ≡ passes ch) × (m.signal ≡ (passed ch).signal) × Ready ch

  step_passes : (s : State) (m : Move) → Stepped c (channel_of s.registers c) s.world (step_of s) → move_of c (turn_of s call.Step) ≡ Some m → Passes (channel_of s.registers c) m
  step_passes s m (rests i g p) e = absurd (none-some m (sym i ∙ e))
  step_passes s m (goes j i g a sg ch r) e =
      let same : j ≡ m = (let z : Some j ≡ Some m = sym i ∙ e in cc) in
      (ap (λ (x : Move). x.address) (sym same) ∙ a, ap (λ (x : Move). x.signal) (sym same) ∙ sg, r)
  step_passes s m (gets x i g f ch can w) e = absurd (none-some m (sym i ∙ e))

  pub move_passes : (s : State) (k : Call) (m : Move) → Sound s.registers → move_of c (turn_of s k) ≡ Some m → Passes (channel_of s.registers c) m
  move_passes s (call.Write p v) m h e = absurd (none-some m e)
  move_passes s (call.Read p) m h e = absurd (none-some m e)
  move_passes s (call.Lines b) m h e = absurd (none-some m e)
  move_passes s call.Step m h e = step_passes s m (step_effect s h) e
  move_passes s (call.Inspect d) m h e = absurd (none-some m e)
  move_passes s call.Take m h e = absurd (none-some m e)
  move_passes s (call.Cycle x) m h e = absurd (none-some m e)
  move_passes s call.Release m h e = absurd (none-some m e)

  -- a transfer begins the next job of its channel if it signals
  pub begins_signals : (s : State) (k : Call) (m : Move) → move_of c (turn_of s k) ≡ Some m → begins_job c (turn_of s k) ≡ is_some m.signal
  begins_signals s (call.Write p v) m e = absurd (none-some m e)
  begins_signals s (call.Read p) m e = absurd (none-some m e)
  begins_signals s (call.Lines b) m e = absurd (none-some m e)
  begins_signals s call.Step m e = ap signalled e
  begins_signals s (call.Inspect d) m e = absurd (none-some m e)
  begins_signals s call.Take m e = absurd (none-some m e)
  begins_signals s (call.Cycle x) m e = absurd (none-some m e)
  begins_signals s call.Release m e = absurd (none-some m e)
