-- The slots last chosen in both groups are slots, after every call.
use Rattle.std.proofs.Common.{◌≡◌, ℕ, ◌<◌, Some, None, Option, unwrap_or, sym, refl, subst, arith}
use Rattle.arbiter.specs.declared.groups.Choice.{Choice}
use Rattle.arbiter.specs.Groups.{Group, group_of as side_group, ServedBy, Served, Won}
use Rattle.arbiter.proofs.Winners.{won}
use Rattle.registers.specs.declared.file.Registers.{Registers}
use Rattle.registers.specs.declared.ports.Dma.TheVariants.{One, Two}
use Rattle.controller.specs.declared.controller.Bus.{Bus}
use Rattle.controller.specs.Grants.{out_to}
use Rattle.controller.specs.Steps.{State, with_registers, begun, first_side, second_side, choice_of, step_at}
use Rattle.runs.specs.declared.calls.Call.{Call}
use Rattle.runs.specs.declared.calls.Call.TheVariants as call
use Rattle.runs.specs.Calls.{performed}
use Rattle.runs.proofs.Stepping.{Keeps, Any, step_keeps}
use Rattle.runs.proofs.Lasts.{lasts, channel_stays, Left, stay, clear, write_left, read_stays, lines_stay}
use Rattle.runs.proofs.Serving.{cycle_leaves, release_leaves}

-- both are slots
abbrev pub Slots : ℕ × ℕ → Type 0
Slots l = (l.0 < 4) × (l.1 < 4)

-- both groups, as a choice sees them
abbrev pub first_group : Registers → Group
first_group k = side_group (first_side k)

abbrev pub second_group : Registers → Group
second_group k = side_group (second_side k)

-- the laws of the choice between all channels that ask
pub choice_won : (k : Registers) → Won (first_group k) (second_group k) (choice_of k)
choice_won k = won (first_group k) (second_group k) (choice_of k) refl

slots_stay : {l m : ℕ × ℕ} → m ≡ l → Slots l → Slots m
slots_stay e h = subst Slots (sym e) h

slots_left : (k m : Registers) → Left k m → Slots (lasts k) → Slots (lasts m)
slots_left k m (stay e) h = slots_stay e h
slots_left k m (clear One o) h = (omega arith, h.1)
slots_left k m (clear Two o) h = (h.0, omega arith)

-- the slots that a choice notes
slots_noted : (k : Registers) (channel s : ℕ) (o : Option ℕ) → ServedBy (first_group k) (second_group k) channel s o → Slots (lasts k)
    → Slots (unwrap_or o k.first.last, s)
slots_noted k channel s None v h = (h.0, v.2)
slots_noted k channel s (Some d) v h = (v.2, omega (arith, v.1))

-- so a step leaves slots
abbrev Slotted : State → Type 0
Slotted s = Slots (lasts s.registers)

slots_keep : Keeps Slotted Any
slots_keep = record {
  put = λ s c x h. slots_stay (channel_stays c x s.registers) h;
  serves = λ s c g h. h;
  idles = λ s h. h;
  carries = λ s o h. h;
  sends = λ s c h. h;
}

slots_begin : (s : State) (w : Choice) → choice_of s.registers ≡ Some w → Slotted s → Unit {0} × Slotted (with_registers (begun w s.registers) s)
slots_begin s w e h =
    let k = s.registers in
    let P : Option Choice → Type 0 = λ o. Served (first_group k) (second_group k) o in
    (tt, slots_noted k w.channel w.second w.first (subst P e (choice_won k).asks) h)

slots_step : (s : State) (b : Bus) → Slotted s → Slotted (step_at s b).0
slots_step s b h = step_keeps Slotted Any slots_keep slots_begin (λ s c e h. tt) s b h

-- after every call both slots last chosen are slots
pub slots_kept : (s : State) (k : Call) → Slots (lasts s.registers) → Slots (lasts (performed s k).0.registers)
slots_kept s (call.Write p v) h = slots_left s.registers _ (write_left p v s.registers) h
slots_kept s (call.Read p) h = slots_stay (read_stays p s.registers) h
slots_kept s (call.Lines b) h = slots_stay (lines_stay b s.registers) h
slots_kept s call.Step h = slots_step s s.bus h
slots_kept s (call.Inspect c) h = h
slots_kept s call.Take h = h
slots_kept s (call.Cycle x) h = slots_stay (cycle_leaves s (out_to s.bus) x) h
slots_kept s call.Release h = slots_stay (release_leaves s (out_to s.bus)) h
