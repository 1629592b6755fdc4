-- A job that begins with its list active begins with Start: nothing loaded, and the next place is the table pointer.
use Rattle.std.proofs.Common.{◌≡◌, ℕ, ◌/◌, ◌%◌, ◌<◌, Bool, true, false, cond, not, ◌&&◌, ◌||◌, eqb, ltb, leb, get_or, is_some, Some, None, Option, sym, refl, ap, ◌∙◌, subst, arith}
use Rattle.std.proofs.lemmas.Bool.{true≢false as never, and_parts}
use Rattle.registers.specs.declared.channel.Channel.{Channel}
use Rattle.registers.specs.declared.list.Entry.{Entry as Buffer}
use Rattle.registers.specs.declared.group.Group.{Group}
use Rattle.registers.specs.declared.file.Registers.{Registers}
use Rattle.registers.specs.Modes.{mode_of}
use Rattle.registers.specs.declared.ports.Dma.{Dma}
use Rattle.registers.specs.declared.ports.Dma.TheVariants.{One, Two}
use Rattle.registers.specs.declared.ports.Field.{Field}
use Rattle.registers.specs.declared.ports.Field.TheVariants.{Address, Count, LowPage, HighPage, Table}
use Rattle.registers.specs.declared.ports.Control.{Control}
use Rattle.registers.specs.declared.ports.Control.TheVariants.{Command, Request, Mask, Mode, ExtendedMode, ClearPointer, MasterClear, ClearMasks, AllMasks}
use Rattle.registers.specs.declared.ports.WritePort.{WritePort}
use Rattle.registers.specs.declared.ports.WritePort.TheVariants as target
use Rattle.registers.specs.Ports.{write_port}
use Rattle.registers.specs.Channels.{blank, with_list, commanded, halted, with_address, with_count, with_low, with_high, with_mode, with_extended_mode, with_list_command, list_begins}
use Rattle.registers.specs.Groups.{slot_of, flipped, cleared_group}
use Rattle.registers.specs.File.{channel_of, with_channel, at_group_of, at_first, at_second, at_dma, picked, busy, high_byte, accepted_at, written_for, refusal_for, refusal_at, control_refusal, control_written, field_written, list_written}
use Rattle.controller.specs.Passing.{passed, closed}
use Rattle.controller.specs.Steps.{State, step_of}
use Rattle.arbiter.proofs.Masks.{below_four}
use Rattle.runs.specs.declared.calls.Call.{Call}
use Rattle.runs.specs.declared.calls.Call.TheVariants as call
use Rattle.runs.specs.Calls.{performed}
use Rattle.runs.specs.Words.{begins_job, signalled, in_group, field_begins, control_begins, list_begins_for, write_begins}
use Rattle.runs.proofs.Runs.{turn_of}
use Rattle.runs.proofs.Slots.{Four, channel_same}
use Rattle.runs.proofs.Effects.{Stepped, rests, goes, gets}
use Rattle.runs.proofs.Turns.{step_effect}
use Rattle.runs.proofs.Sound.{Sound}

-- a list just started
pub record Fresh (ch : Channel) : Type 0 where
  pub unloaded : ch.list.loaded ≡ false
  pub unreserved : ch.list.reserve ≡ None
  pub unended : ch.list.ended ≡ false
  pub unstopped : ch.list.stopped ≡ false
  pub uncounted : ch.list.entries ≡ 0
  pub placed : ch.list.next ≡ ch.list.pointer

-- either the list is not active, or it is fresh
abbrev Begun : Channel → Type 0
Begun ch = ch.list.active ≡ true → Fresh ch

idle : (ch : Channel) → ch.list.active ≡ false → Begun ch
idle ch e h = absurd (never (sym h ∙ e))

as_channel : (ch x : Channel) → ch ≡ x → Begun x → Begun ch
as_channel ch x e b = let P : Channel → Type 0 = λ y. Begun y in subst P (sym e) b

-- a transfer that signals leaves no active list
signal_idle : (ch : Channel) (z a q : Bool) (o : Option Buffer) → eqb ch.current.count 0 ≡ z → ch.list.active ≡ a → ch.list.reserve ≡ o → closed ch.list ≡ q
    → is_some (passed ch).signal ≡ true → (passed ch).channel.list.active ≡ false
signal_idle ch false a q o z ea eo eq s = absurd (never (sym s ∙ rw z))
signal_idle ch true false q o z ea eo eq s = rw (z, ea)
signal_idle ch true true q (Some e) z ea eo eq s = absurd (never (sym s ∙ rw (z, ea, eo)))
signal_idle ch true true true None z ea eo eq s = rw (z, ea, eo, eq)
signal_idle ch true true false None z ea eo eq s = absurd (never (sym s ∙ rw (z, ea, eo, eq)))

flip_channel : (d c : ℕ) (k : Registers) → channel_of (at_group_of d flipped k) c ≡ channel_of k c
flip_channel d c k = go (ltb d 4) (ltb c 4) refl
  where
    go : (p q : Bool) → ltb c 4 ≡ q → channel_of (cond p (at_first flipped k) (at_second flipped k)) c ≡ channel_of k c
    go true true e = rw e
    go true false e = rw e
    go false true e = rw e
    go false false e = rw e

-- an accepted write to a register that an active list guards
free : (b : Bool) → eqb (cond b 4 0) 0 ≡ true → b ≡ false
free true h = absurd (never (sym h))
free false h = refl

mode_free : (q b : Bool) → eqb (cond q 3 (cond b 4 0)) 0 ≡ true → b ≡ false
mode_free true b h = absurd (never (sym h))
mode_free false b h = free b h

extended_free : (p q b : Bool) → eqb (cond p 2 (cond q 3 (cond b 4 0))) 0 ≡ true → b ≡ false
extended_free true q b h = absurd (never (sym h))
extended_free false q b h = mode_free q b h

module _ (k : Registers) (c : ℕ) (f : Four k) (hc : c < 8) where
  put_here : (x : Channel) → x.list.active ≡ false → Begun (channel_of (with_channel c x k) c)
  put_here x e = as_channel _ x (channel_same k c x f hc) (idle x e)

  field_begun : (x : Field) (v : ℕ) → field_begins x ≡ true → busy k c ≡ false → Begun (channel_of (field_written x c v k) c)
  field_begun Address v b e = as_channel _ _ (flip_channel c c _) (put_here (with_address (high_byte k c) v (channel_of k c)) e)
  field_begun Count v b e = as_channel _ _ (flip_channel c c _) (put_here (with_count (high_byte k c) v (channel_of k c)) e)
  field_begun LowPage v b e = put_here (with_low v (channel_of k c)) e
  field_begun HighPage v b e = put_here (with_high v (channel_of k c)) e
  field_begun (Table n) v b e = absurd (never (sym b))

  command_begun : (v : ℕ) (a b : Bool) → eqb (v % 4) 1 ≡ a → eqb (v % 4) 2 ≡ b → list_begins v (channel_of k c) ≡ true → Begun (with_list_command v (channel_of k c))
  command_begun v true b p q e = rw p (λ h. record { unloaded = refl; unreserved = refl; unended = refl; unstopped = refl; uncounted = refl; placed = refl })
  command_begun v false false p q e = absurd (never (sym e ∙ rw (p, q)))
  command_begun v false true p q e = rw (p, q) (stop (channel_of k c).list.active (channel_of k c).list.loaded refl refl)
    where
      stop : (m n : Bool) → (channel_of k c).list.active ≡ m → (channel_of k c).list.loaded ≡ n → Begun (halted (with_list (commanded v (channel_of k c).list) (channel_of k c)))
      stop false n i j = absurd (never (sym e ∙ rw (p, q, i)))
      stop true true i j = absurd (never (sym e ∙ rw (p, q, i, j)))
      stop true false i j = rw (i, j) (λ h. absurd (never (sym h)))

  list_begun : (v : ℕ) → list_begins v (channel_of k c) ≡ true → Begun (channel_of (list_written c v k) c)
  list_begun v e = rw e (as_channel _ _ (channel_same k c _ f hc) (command_begun v _ _ refl refl e))

  -- a channel of a cleared group
  cleared_slot : (g : Group) (n : ℕ) → (slot_of (cleared_group g) n).list.active ≡ false
  cleared_slot g n = below_four (λ j. (get_or (cleared_group g).channels j blank).list.active ≡ false) refl refl refl refl (n % 4) (omega arith)

  clear_begun : (d : Dma) → in_group d c ≡ true → Begun (channel_of (at_dma d cleared_group k) c)
  clear_begun One e = rw e (idle _ (cleared_slot k.first c))
  clear_begun Two e = go (ltb c 4) refl
    where
      go : (q : Bool) → ltb c 4 ≡ q → Begun (channel_of (at_second cleared_group k) c)
      go true q = absurd (never (sym e ∙ rw q))
      go false q = rw q (idle _ (cleared_slot k.second c))

  at_picked : (d : ℕ) (x : ℕ → Channel) → eqb c d ≡ true → (x d).list.active ≡ false → Begun (channel_of (with_channel d (x d) k) c)
  at_picked d x e off =
      let same : d ≡ c = grind arith in
      let P : ℕ → Type 0 = λ j. (x j).list.active ≡ false → Begun (channel_of (with_channel j (x j) k) c) in
      subst P (sym same) (put_here (x c)) off

  control_begun : (x : Control) (d : Dma) (v : ℕ) → control_begins x d v c ≡ true → eqb (control_refusal k x d v) 0 ≡ true → Begun (channel_of (control_written x d v k) c)
  control_begun Command d v b e = absurd (never (sym b))
  control_begun Request d v b e = absurd (never (sym b))
  control_begun Mask d v b e = absurd (never (sym b))
  control_begun Mode d v b e = at_picked (picked d v) (λ j. with_mode (mode_of v) (channel_of k j)) b (mode_free (not (eqb (v / 64) 3) && (eqb (v / 4 % 4) 3 || eqb (picked d v) 4)) (busy k (picked d v)) e)
  control_begun ExtendedMode d v b e = at_picked (picked d v) (λ j. with_extended_mode v (channel_of k j)) b (extended_free (eqb (picked d v) 4) (leb 2 (v / 4 % 4)) (busy k (picked d v)) e)
  control_begun ClearPointer d v b e = absurd (never (sym b))
  control_begun MasterClear d v b e = clear_begun d b
  control_begun ClearMasks d v b e = absurd (never (sym b))
  control_begun AllMasks d v b e = absurd (never (sym b))

  accepted_begun : (s : State) (w : WritePort) (v : ℕ) → s.registers ≡ k → eqb (refusal_at k w v) 0 ≡ true → write_begins s (Some w) v c ≡ true → Begun (channel_of (accepted_at w v k) c)
  accepted_begun s (target.Field x d) v i e b =
      let h = and_parts (field_begins x) (eqb c d) b in
      let same : d ≡ c = (let z = h.1 in grind arith) in
      let P : ℕ → Type 0 = λ j. eqb (cond (busy k j) 4 0) 0 ≡ true → Begun (channel_of (field_written x j v k) c) in
      subst P (sym same) (λ u. field_begun x v h.0 (free (busy k c) u)) e
  accepted_begun s (target.ListCommand d) v i e b =
      let h = and_parts (eqb c d) (list_begins_for (channel_of s.registers d) v) b in
      let same : d ≡ c = (let z = h.0 in grind arith) in
      let P : ℕ → Type 0 = λ j. list_begins_for (channel_of k j) v ≡ true → Begun (channel_of (list_written j v k) c) in
      let Q : Registers → Type 0 = λ x. list_begins_for (channel_of x d) v ≡ true in
      subst P (sym same) (λ u. list_begun v u) (subst Q i h.1)
  accepted_begun s (target.Control x d) v i e b = control_begun x d v b e

  pub write_begun : (s : State) (o : Option WritePort) (v : ℕ) → s.registers ≡ k → (eqb (refusal_for k o v) 0 && write_begins s o v c) ≡ true → Begun (channel_of (written_for o v k) c)
  write_begun s None v i b = absurd (never (sym b))
  write_begun s (Some w) v i b = let h = and_parts (eqb (refusal_at k w v) 0) (write_begins s (Some w) v c) b in rw h.0 (accepted_begun s w v i h.0 h.1)

step_begun : (c : ℕ) (s : State) → Stepped c (channel_of s.registers c) s.world (step_of s) → begins_job c (turn_of s call.Step) ≡ true → Begun (channel_of (step_of s).0.registers c)
step_begun c s (rests i g p) b = absurd (never (sym b ∙ ap signalled i))
step_begun c s (goes m i g a sg ch r) b =
    as_channel _ _ ch (idle _ (signal_idle (channel_of s.registers c) _ _ _ _ refl refl refl refl (ap is_some (sym sg) ∙ sym (ap signalled i) ∙ b)))
step_begun c s (gets x i g f ch can w) b = absurd (never (sym b ∙ ap signalled i))

pub begun_fresh : (c : ℕ) → c < 8 → (s : State) (k : Call) → Sound s.registers → begins_job c (turn_of s k) ≡ true → (channel_of (performed s k).0.registers c).list.active ≡ true
    → Fresh (channel_of (performed s k).0.registers c)
begun_fresh c hc s (call.Write p v) h b = write_begun s.registers c h.0 hc s (write_port p) v refl b
begun_fresh c hc s (call.Read p) h b = absurd (never (sym b))
begun_fresh c hc s (call.Lines x) h b = absurd (never (sym b))
begun_fresh c hc s call.Step h b = step_begun c s (step_effect c hc s h) b
begun_fresh c hc s (call.Inspect d) h b = absurd (never (sym b))
begun_fresh c hc s call.Take h b = absurd (never (sym b))
begun_fresh c hc s (call.Cycle x) h b = absurd (never (sym b))
begun_fresh c hc s call.Release h b = absurd (never (sym b))
