-- What stays true of the registers over every run: groups of four channels, and a service of one of them.
use Rattle.std.proofs.Common.{◌≡◌, ℕ, ◌<◌, Bool, true, false, cond, eqb, ltb, length, Some, None, Option, sym, refl, subst, arith}
use Rattle.std.proofs.lemmas.Bool.{cond_both}
use Rattle.arbiter.specs.declared.groups.Choice.{Choice}
use Rattle.arbiter.specs.Groups.{Group as Side, Served, ServedBy}
use Rattle.registers.specs.declared.channel.Channel.{Channel}
use Rattle.registers.specs.declared.group.Group.{Group}
use Rattle.registers.specs.declared.file.Registers.{Registers}
use Rattle.registers.specs.declared.ports.Dma.{Dma}
use Rattle.registers.specs.declared.ports.Dma.TheVariants.{One, Two}
use Rattle.registers.specs.declared.ports.Field.{Field}
use Rattle.registers.specs.declared.ports.Field.TheVariants.{Address, Count, LowPage, HighPage, Table}
use Rattle.registers.specs.declared.ports.Control.{Control}
use Rattle.registers.specs.declared.ports.Control.TheVariants.{Command, Request, Mask, Mode, ExtendedMode, ClearPointer, MasterClear, ClearMasks, AllMasks}
use Rattle.registers.specs.declared.ports.WritePort.{WritePort}
use Rattle.registers.specs.declared.ports.WritePort.TheVariants as target
use Rattle.registers.specs.declared.ports.ReadPort.{ReadPort}
use Rattle.registers.specs.declared.ports.ReadPort.TheVariants as source
use Rattle.registers.specs.Modes.{flag}
use Rattle.registers.specs.Ports.{write_port, read_port}
use Rattle.registers.specs.Channels.{list_begins}
use Rattle.registers.specs.Groups.{flipped, with_command, with_pointer, with_masks, without_terminals, cleared_group}
use Rattle.registers.specs.File.{channel_of, with_channel, at_first, at_second, at_group_of, at_dma, programmed, over, over_in, picked, accepted_at, written_for, refusal_at, control_written, field_written, list_written, read_for, read_at, lined}
use Rattle.controller.specs.declared.controller.Bus.{Bus}
use Rattle.controller.specs.Asking.{goes_on, fetches, first_fetching}
use Rattle.controller.specs.Grants.{holds, out_to}
use Rattle.controller.specs.Steps.{State, begun, choice_of, ongoing, step_at}
use Rattle.runs.specs.declared.calls.Call.{Call}
use Rattle.runs.specs.declared.calls.Call.TheVariants as call
use Rattle.runs.specs.Calls.{performed}
use Rattle.runs.proofs.Slots.{Four, four_with}
use Rattle.runs.proofs.Stepping.{Keeps, step_keeps}
use Rattle.runs.proofs.Chosen.{first_group, second_group, choice_won}

-- a service of a channel below eight, if there is one
abbrev pub Serviced : Option ℕ → Type 0
Serviced None = Unit {0}
Serviced (Some c) = c < 8

abbrev pub Sound : Registers → Type 0
Sound k = Four k × Serviced k.service

over_serviced : (c : ℕ) (o : Option ℕ) → Serviced o → Serviced (over c o)
over_serviced c None h = tt
over_serviced c (Some d) h = cond_both (eqb c d) None (Some d) Serviced (λ _. tt) (λ _. h)

over_in_serviced : (d : Dma) (o : Option ℕ) → Serviced o → Serviced (over_in d o)
over_in_serviced One None h = tt
over_in_serviced Two None h = tt
over_in_serviced One (Some c) h = cond_both (ltb c 4) None (Some c) Serviced (λ _. tt) (λ _. h)
over_in_serviced Two (Some c) h = cond_both (ltb c 4) (Some c) None Serviced (λ _. h) (λ _. tt)

-- a change of a group that leaves four channels
abbrev Fours : (Group → Group) → Type 0
Fours f = (g : Group) → length g.channels ≡ 4 → length (f g).channels ≡ 4

dma_sound : (f : Group → Group) (d : Dma) (k : Registers) → Fours f → Sound k → Sound (at_dma d f k)
dma_sound f One k h s = ((h k.first s.0.0, s.0.1), s.1)
dma_sound f Two k h s = ((s.0.0, h k.second s.0.1), s.1)

group_sound : (f : Group → Group) (c : ℕ) (k : Registers) → Fours f → Sound k → Sound (at_group_of c f k)
group_sound f c k h s = cond_both (ltb c 4) (at_first f k) (at_second f k) Sound (λ _. dma_sound f One k h s) (λ _. dma_sound f Two k h s)

same_service : (c : ℕ) (ch : Channel) (k : Registers) → (with_channel c ch k).service ≡ k.service
same_service c ch k = cond_both (ltb c 4) _ _ (λ (m : Registers). m.service ≡ k.service) (λ _. refl) (λ _. refl)

with_sound : (c : ℕ) (ch : Channel) (k : Registers) → Sound k → Sound (with_channel c ch k)
with_sound c ch k s = (four_with k c ch s.0, subst Serviced (sym (same_service c ch k)) s.1)

programmed_sound : (c : ℕ) (ch : Channel) (k : Registers) → Sound k → Sound (programmed c ch k)
programmed_sound c ch k s = (four_with k c ch s.0, over_serviced c k.service s.1)

field_sound : (x : Field) (c v : ℕ) (k : Registers) → Sound k → Sound (field_written x c v k)
field_sound Address c v k s = group_sound flipped c _ (λ g h. h) (programmed_sound c _ k s)
field_sound Count c v k s = group_sound flipped c _ (λ g h. h) (programmed_sound c _ k s)
field_sound LowPage c v k s = programmed_sound c _ k s
field_sound HighPage c v k s = programmed_sound c _ k s
field_sound (Table n) c v k s = with_sound c _ k s

list_sound : (c v : ℕ) (k : Registers) → Sound k → Sound (list_written c v k)
list_sound c v k s = cond_both (list_begins v (channel_of k c)) _ _ Sound (λ _. programmed_sound c _ k s) (λ _. with_sound c _ k s)

control_sound : (x : Control) (d : Dma) (v : ℕ) (k : Registers) → Sound k → Sound (control_written x d v k)
control_sound Command d v k s = dma_sound (with_command v) d k (λ g h. h) s
control_sound Request d v k s = with_sound (picked d v) _ k s
control_sound Mask d v k s = with_sound (picked d v) _ k s
control_sound Mode d v k s = programmed_sound (picked d v) _ k s
control_sound ExtendedMode d v k s = programmed_sound (picked d v) _ k s
control_sound ClearPointer d v k s = dma_sound (with_pointer false) d k (λ g h. h) s
control_sound MasterClear d v k s = ((dma_sound cleared_group d k (λ g h. refl) s).0, over_in_serviced d k.service s.1)
control_sound ClearMasks d v k s = dma_sound (with_masks 0) d k (λ g h. refl) s
control_sound AllMasks d v k s = dma_sound (with_masks v) d k (λ g h. refl) s

accepted_sound : (w : WritePort) (v : ℕ) (k : Registers) → Sound k → Sound (accepted_at w v k)
accepted_sound (target.Field x c) v k s = field_sound x c v k s
accepted_sound (target.ListCommand c) v k s = list_sound c v k s
accepted_sound (target.Control x d) v k s = control_sound x d v k s

written_sound : (o : Option WritePort) (v : ℕ) (k : Registers) → Sound k → Sound (written_for o v k)
written_sound None v k s = s
written_sound (Some w) v k s = cond_both (eqb (refusal_at k w v) 0) _ _ Sound (λ _. accepted_sound w v k s) (λ _. s)

read_at_sound : (p : ReadPort) (k : Registers) → Sound k → Sound (read_at p k)
read_at_sound (source.Field Address c) k s = group_sound flipped c k (λ g h. h) s
read_at_sound (source.Field Count c) k s = group_sound flipped c k (λ g h. h) s
read_at_sound (source.Field LowPage c) k s = s
read_at_sound (source.Field HighPage c) k s = s
read_at_sound (source.Field (Table n) c) k s = s
read_at_sound (source.ListStatus c) k s = s
read_at_sound (source.Status d) k s = dma_sound without_terminals d k (λ g h. refl) s
read_at_sound (source.AllMasks d) k s = s
read_at_sound source.Irq13 k s = s

read_sound : (o : Option ReadPort) (k : Registers) → Sound k → Sound (read_for o k)
read_sound None k s = s
read_sound (Some p) k s = read_at_sound p k s

lined_sound : (b : ℕ) (k : Registers) → Sound k → Sound (lined b k)
lined_sound b k s = cond_both (flag 16 b) _ _ Sound (λ _. s) (λ _. ((refl, refl), s.1))

-- the channel that wins is below eight
won_below : (f g : Side) (channel slot : ℕ) (o : Option ℕ) → ServedBy f g channel slot o → channel < 8
won_below f g channel slot None h = let a = h.0 in let b = h.2 in omega arith
won_below f g channel slot (Some d) h = let a = h.0 in let b = h.2 in omega arith

pub chosen_below : (k : Registers) (w : Choice) → choice_of k ≡ Some w → w.channel < 8
chosen_below k w e =
    let P : Option Choice → Type 0 = λ o. Served (first_group k) (second_group k) o in
    won_below (first_group k) (second_group k) w.channel w.second w.first (subst P e (choice_won k).asks)

-- the channel that fetches ahead is below eight, and fetches
abbrev pub Fetching : Registers → Option ℕ → Type 0
Fetching k None = Unit {0}
Fetching k (Some c) = (c < 8) × (fetches k c ≡ true)

first_or_fetching : (k : Registers) (c : ℕ) (q : Bool) (o : Option ℕ) → fetches k c ≡ q → c < 8 → Fetching k o → Fetching k (cond q (Some c) o)
first_or_fetching k c true o e h r = (h, e)
first_or_fetching k c false o e h r = r

pub ahead_below : (k : Registers) → Fetching k (first_fetching k)
ahead_below k = first_or_fetching k 0 _ _ refl (omega arith) (first_or_fetching k 1 _ _ refl (omega arith) (first_or_fetching k 2 _ _ refl (omega arith) (first_or_fetching k 3 _ _ refl (omega arith)
    (first_or_fetching k 5 _ _ refl (omega arith) (first_or_fetching k 6 _ _ refl (omega arith) (first_or_fetching k 7 _ _ refl (omega arith) tt))))))

-- a service that goes on is of a channel below eight
pub ongoing_below : (k : Registers) (o : Option ℕ) → Serviced o → Serviced (ongoing k o)
ongoing_below k None h = tt
ongoing_below k (Some c) h = cond_both (goes_on k c) (Some c) None Serviced (λ _. h) (λ _. tt)

-- a step leaves the registers sound
abbrev Low : ℕ → Type 0
Low c = c < 8

sound_keeps : Keeps (λ s. Sound s.registers) Low
sound_keeps = record {
  put = λ s c x h. with_sound c x s.registers h;
  serves = λ s c g h. (h.0, g);
  idles = λ s h. (h.0, tt);
  carries = λ s o h. h;
  sends = λ s c h. h;
}

sound_begins : (s : State) (w : Choice) → choice_of s.registers ≡ Some w → Sound s.registers → Low w.channel × Sound (begun w s.registers)
sound_begins s w e h = let b = chosen_below s.registers w e in (b, (h.0, b))

step_sound : (s : State) (b : Bus) → Sound s.registers → Sound (step_at s b).0.registers
step_sound s b h = step_keeps (λ s. Sound s.registers) Low sound_keeps sound_begins (λ s c e h. subst Serviced e h.1) s b h

pub sound_kept : (s : State) (k : Call) → Sound s.registers → Sound (performed s k).0.registers
sound_kept s (call.Write p v) h = written_sound (write_port p) v s.registers h
sound_kept s (call.Read p) h = read_sound (read_port p) s.registers h
sound_kept s (call.Lines b) h = lined_sound b s.registers h
sound_kept s call.Step h = step_sound s s.bus h
sound_kept s (call.Inspect c) h = h
sound_kept s call.Take h = h
sound_kept s (call.Cycle x) h = cond_both (holds s.bus (out_to s.bus)) _ _ (λ (t : State). Sound t.registers) (λ _. h) (λ _. h)
sound_kept s call.Release h = cond_both (holds s.bus (out_to s.bus)) _ _ (λ (t : State). Sound t.registers)
    (λ _. (h.0, over_serviced (out_to s.bus) s.registers.service h.1)) (λ _. h)
