-- What a driver's access does to the plan of a channel whose job goes on: nothing, but for a Stop.
use Rattle.std.proofs.Common.{◌≡◌, ℕ, ◌/◌, ◌%◌, ◌<◌, Bool, true, false, cond, ◌&&◌, eqb, ltb, ◌⊎◌, Some, None, Option, sym, refl, ap, ◌∙◌, inl, inr, arith}
use Rattle.std.proofs.Math.Bool.{and-false}
use Rattle.std.proofs.lemmas.Bool.{true≢false as never, cond_both}
use Rattle.registers.specs.declared.channel.Channel.{Channel}
use Rattle.registers.specs.declared.group.Group.{Group}
use Rattle.registers.specs.declared.file.Registers.{Registers}
use Rattle.registers.specs.declared.ports.Dma.{Dma}
use Rattle.registers.specs.declared.ports.Dma.TheVariants.{One, Two}
use Rattle.registers.specs.declared.ports.Field.{Field}
use Rattle.registers.specs.declared.ports.Field.TheVariants.{Address, Count, LowPage, HighPage, Table}
use Rattle.registers.specs.declared.ports.Control.{Control}
use Rattle.registers.specs.declared.ports.Control.TheVariants.{Command, Request, Mask, Mode, ExtendedMode, ClearPointer, MasterClear, ClearMasks, AllMasks}
use Rattle.registers.specs.declared.ports.WritePort.{WritePort}
use Rattle.registers.specs.declared.ports.WritePort.TheVariants as target
use Rattle.registers.specs.declared.ports.ReadPort.{ReadPort}
use Rattle.registers.specs.declared.ports.ReadPort.TheVariants as source
use Rattle.registers.specs.Modes.{flag}
use Rattle.registers.specs.Channels.{with_table_byte, with_list_command, list_begins, with_mask, with_line, with_terminal}
use Rattle.registers.specs.Groups.{slot_of, flipped, with_command, with_pointer, with_masks, with_lines, without_terminals, cleared_group}
use Rattle.registers.specs.File.{channel_of, with_channel, at_first, at_second, at_group_of, at_dma, picked, accepted_at, written_for, refusal_for, refusal_at, control_written, field_written, list_written, read_for, read_at, lined}
use Rattle.controller.specs.Steps.{State}
use Rattle.runs.specs.Words.{in_group, field_begins, control_begins, list_begins_for, write_begins, stop_at}
use Rattle.runs.proofs.Slots.{Four, channel_with, channel_same, channel_other}
use Rattle.runs.proofs.Parts.{Part, part_of, each_leaves, first_leaves, second_leaves}
use Rattle.runs.proofs.Ports.{Reaches, ReachesIf, picked_below}

-- a part after Stop
abbrev pub with_stop : Part → Part
with_stop p = record p { stopped = true }

-- what an access does to channel c's part, where `stop` says whether it was an accepted Stop of c
pub data Accessed (c : ℕ) (k : Registers) (stop : Bool) (k' : Registers) : Type 0 where
  quiet : (stop ≡ false) ⊎ ((channel_of k c).list.active ≡ false) → part_of (channel_of k' c) ≡ part_of (channel_of k c) → Accessed c k stop k'
  halts : stop ≡ true → (channel_of k c).list.active ≡ true → (channel_of k c).list.loaded ≡ true
      → part_of (channel_of k' c) ≡ with_stop (part_of (channel_of k c)) → Accessed c k stop k'

-- nothing that another channel's write does reaches channel c
module _ (k : Registers) (c d : ℕ) (x : Channel) (f : Four k) (hc : c < 8) (hd : d < 8) where
  other : eqb c d ≡ false → part_of (channel_of (with_channel d x k) c) ≡ part_of (channel_of k c)
  other e = ap part_of (channel_other k c d x f hc hd e)

  -- and what its own write leaves of its part stays
  own : part_of x ≡ part_of (channel_of k d) → part_of (channel_of (with_channel d x k) c) ≡ part_of (channel_of k c)
  own h = go (eqb c d) refl
    where
      go : (q : Bool) → eqb c d ≡ q → part_of (channel_of (with_channel d x k) c) ≡ part_of (channel_of k c)
      go true q =
          let same : c ≡ d = grind arith in
          let here : channel_of (with_channel d x k) c ≡ cond true x (channel_of k c) = rw q at (channel_with k c d x f hc hd) in
          ap part_of here ∙ h ∙ ap (λ j. part_of (channel_of k j)) (sym same)
      go false q = other q

flip_leaves : (d c : ℕ) (k : Registers) → part_of (channel_of (at_group_of d flipped k) c) ≡ part_of (channel_of k c)
flip_leaves d c k = cond_both (ltb d 4) _ _ (λ m. part_of (channel_of m c) ≡ part_of (channel_of k c))
    (λ _. first_leaves flipped k c (λ n. refl)) (λ _. second_leaves flipped k c (λ n. refl))

dma_leaves : (f : Group → Group) (d : Dma) (k : Registers) (c : ℕ) → ((g : Group) (n : ℕ) → part_of (slot_of (f g) n) ≡ part_of (slot_of g n))
    → part_of (channel_of (at_dma d f k) c) ≡ part_of (channel_of k c)
dma_leaves f One k c h = first_leaves f k c (h k.first)
dma_leaves f Two k c h = second_leaves f k c (h k.second)

masks_leave : (v : ℕ) (g : Group) (n : ℕ) → part_of (slot_of (with_masks v g) n) ≡ part_of (slot_of g n)
masks_leave v g = each_leaves (with_mask (flag 1 v)) (with_mask (flag 2 v)) (with_mask (flag 4 v)) (with_mask (flag 8 v)) g (λ _. refl) (λ _. refl) (λ _. refl) (λ _. refl)

lines_leave : (v : ℕ) (g : Group) (n : ℕ) → part_of (slot_of (with_lines v g) n) ≡ part_of (slot_of g n)
lines_leave v g = each_leaves (with_line (flag 1 v)) (with_line (flag 2 v)) (with_line (flag 4 v)) (with_line (flag 8 v)) g (λ _. refl) (λ _. refl) (λ _. refl) (λ _. refl)

terminals_leave : (g : Group) (n : ℕ) → part_of (slot_of (without_terminals g) n) ≡ part_of (slot_of g n)
terminals_leave g = each_leaves (with_terminal false) (with_terminal false) (with_terminal false) (with_terminal false) g (λ _. refl) (λ _. refl) (λ _. refl) (λ _. refl)

table_leaves : (n v : ℕ) (ch : Channel) → part_of (with_table_byte n v ch) ≡ part_of ch
unfolding with_table_byte
table_leaves n v ch = refl

-- a master clear of the other group
clear_leaves : (d : Dma) (k : Registers) (c : ℕ) → in_group d c ≡ false → part_of (channel_of (at_dma d cleared_group k) c) ≡ part_of (channel_of k c)
clear_leaves One k c e = rw e
clear_leaves Two k c e = go (ltb c 4) refl
  where
    go : (q : Bool) → ltb c 4 ≡ q → part_of (channel_of (at_second cleared_group k) c) ≡ part_of (channel_of k c)
    go true q = rw q
    go false q = absurd (never (rw q at e))

module _ (k : Registers) (c : ℕ) (f : Four k) (hc : c < 8) where
  field_effect : (x : Field) (d v : ℕ) → d < 8 → (field_begins x && eqb c d) ≡ false → part_of (channel_of (field_written x d v k) c) ≡ part_of (channel_of k c)
  field_effect Address d v hd e = flip_leaves d c _ ∙ other k c d _ f hc hd e
  field_effect Count d v hd e = flip_leaves d c _ ∙ other k c d _ f hc hd e
  field_effect LowPage d v hd e = other k c d _ f hc hd e
  field_effect HighPage d v hd e = other k c d _ f hc hd e
  field_effect (Table n) d v hd e = own k c d _ f hc hd (table_leaves n v (channel_of k d))

  control_effect : (x : Control) (d : Dma) (v : ℕ) → control_begins x d v c ≡ false → part_of (channel_of (control_written x d v k) c) ≡ part_of (channel_of k c)
  control_effect Command d v e = dma_leaves (with_command v) d k c (λ g n. refl)
  control_effect Request d v e = own k c (picked d v) _ f hc (picked_below d v) refl
  control_effect Mask d v e = own k c (picked d v) _ f hc (picked_below d v) refl
  control_effect Mode d v e = other k c (picked d v) _ f hc (picked_below d v) e
  control_effect ExtendedMode d v e = other k c (picked d v) _ f hc (picked_below d v) e
  control_effect ClearPointer d v e = dma_leaves (with_pointer false) d k c (λ g n. refl)
  control_effect MasterClear d v e = clear_leaves d k c e
  control_effect ClearMasks d v e = dma_leaves (with_masks 0) d k c (masks_leave 0)
  control_effect AllMasks d v e = dma_leaves (with_masks v) d k c (masks_leave v)

  -- a list command of channel c itself
  command_effect : (v : ℕ) (a b : Bool) → eqb (v % 4) 1 ≡ a → eqb (v % 4) 2 ≡ b → list_begins v (channel_of k c) ≡ false
      → Accessed c k b (with_channel c (with_list_command v (channel_of k c)) k)
  command_effect v true b p q e = absurd (never (rw p at e))
  command_effect v false false p q e = quiet (inl refl) (own k c c _ f hc hc (rw (p, q)))
  command_effect v false true p q e = go (channel_of k c).list.active (channel_of k c).list.loaded refl refl
    where
      go : (m n : Bool) → (channel_of k c).list.active ≡ m → (channel_of k c).list.loaded ≡ n → Accessed c k true (with_channel c (with_list_command v (channel_of k c)) k)
      go false n i j = quiet (inr i) (own k c c _ f hc hc (rw (p, q, i)))
      go true false i j = absurd (never (rw (p, q, i, j) at e))
      go true true i j = halts refl i j (ap part_of (channel_same k c _ f hc) ∙ rw (p, q, i, j))

  list_effect : (d v : ℕ) (q : Bool) → d < 8 → eqb c d ≡ q → (q && list_begins_for (channel_of k d) v) ≡ false → Accessed c k (q && eqb (v % 4) 2) (list_written d v k)
  list_effect d v false hd q e = quiet (inl refl) (cond_both (list_begins v (channel_of k d)) _ _ (λ m. part_of (channel_of m c) ≡ part_of (channel_of k c))
      (λ _. other k c d _ f hc hd q) (λ _. other k c d _ f hc hd q))
  list_effect d v true hd q e =
      let same : d ≡ c = grind arith in
      rw same (let e' : list_begins v (channel_of k c) ≡ false = (rw same at e) in rw e' (command_effect v (eqb (v % 4) 1) (eqb (v % 4) 2) refl refl e'))

  -- an accepted write that begins no job of c
  accepted_effect : (s : State) (w : WritePort) (v : ℕ) → s.registers ≡ k → Reaches w → write_begins s (Some w) v c ≡ false → Accessed c k (stop_at (Some w) v c) (accepted_at w v k)
  accepted_effect s (target.Field x d) v i h e = quiet (inl refl) (field_effect x d v h e)
  accepted_effect s (target.ListCommand d) v i h e = list_effect d v (eqb c d) h refl (rw i at e)
  accepted_effect s (target.Control x d) v i h e = quiet (inl refl) (control_effect x d v e)

  at_effect : (s : State) (w : WritePort) (v : ℕ) (q : Bool) → s.registers ≡ k → Reaches w → (q && write_begins s (Some w) v c) ≡ false
      → Accessed c k (q && stop_at (Some w) v c) (cond q (accepted_at w v k) k)
  at_effect s w v true i h e = accepted_effect s w v i h e
  at_effect s w v false i h e = quiet (inl refl) refl

  pub write_effect : (s : State) (o : Option WritePort) (v : ℕ) → s.registers ≡ k → ReachesIf o → (eqb (refusal_for k o v) 0 && write_begins s o v c) ≡ false
      → Accessed c k (eqb (refusal_for k o v) 0 && stop_at o v c) (written_for o v k)
  write_effect s None v i h e = quiet (inl (and-false (eqb 1 0))) refl
  write_effect s (Some w) v i h e = at_effect s w v (eqb (refusal_at k w v) 0) i h e

-- reads and lines leave every channel's part
read_at_lem : (k : Registers) (c : ℕ) (p : ReadPort) → part_of (channel_of (read_at p k) c) ≡ part_of (channel_of k c)
read_at_lem k c (source.Field Address d) = flip_leaves d c k
read_at_lem k c (source.Field Count d) = flip_leaves d c k
read_at_lem k c (source.Field LowPage d) = refl
read_at_lem k c (source.Field HighPage d) = refl
read_at_lem k c (source.Field (Table n) d) = refl
read_at_lem k c (source.ListStatus d) = refl
read_at_lem k c (source.Status d) = dma_leaves without_terminals d k c terminals_leave
read_at_lem k c (source.AllMasks d) = refl
read_at_lem k c source.Irq13 = refl

pub read_leaves_lem : (k : Registers) (c : ℕ) (o : Option ReadPort) → part_of (channel_of (read_for o k) c) ≡ part_of (channel_of k c)
read_leaves_lem k c None = refl
read_leaves_lem k c (Some p) = read_at_lem k c p

pub lined_leaves : (k : Registers) (c b : ℕ) → part_of (channel_of (lined b k) c) ≡ part_of (channel_of k c)
lined_leaves k c b = cond_both (flag 16 b) _ _ (λ m. part_of (channel_of m c) ≡ part_of (channel_of k c)) (λ _. refl)
    (λ _. second_leaves (with_lines (b / 16)) (at_first (with_lines (b % 16)) k) c (lines_leave (b / 16) k.second)
    ∙ first_leaves (with_lines (b % 16)) k c (lines_leave (b % 16) k.first))
