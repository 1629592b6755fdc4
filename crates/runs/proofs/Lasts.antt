-- The slots last chosen in both groups: every access leaves them, but for a group's master clear.
use Rattle.std.proofs.Common.{◌≡◌, ℕ, false, eqb, ltb, Some, None, Option, refl, ap, ◌∙◌}
use Rattle.std.proofs.lemmas.Bool.{cond_both}
use Rattle.registers.specs.declared.channel.Channel.{Channel}
use Rattle.registers.specs.declared.group.Group.{Group}
use Rattle.registers.specs.declared.file.Registers.{Registers}
use Rattle.registers.specs.declared.ports.Dma.{Dma}
use Rattle.registers.specs.declared.ports.Dma.TheVariants.{One, Two}
use Rattle.registers.specs.declared.ports.Field.{Field}
use Rattle.registers.specs.declared.ports.Field.TheVariants as field
use Rattle.registers.specs.declared.ports.Control.{Control}
use Rattle.registers.specs.declared.ports.Control.TheVariants as control
use Rattle.registers.specs.declared.ports.WritePort.{WritePort}
use Rattle.registers.specs.declared.ports.WritePort.TheVariants as write
use Rattle.registers.specs.declared.ports.ReadPort.{ReadPort}
use Rattle.registers.specs.declared.ports.ReadPort.TheVariants as read
use Rattle.registers.specs.Modes.{flag}
use Rattle.registers.specs.Channels.{list_begins}
use Rattle.registers.specs.Groups.{with_slot, with_command, with_pointer, flipped, with_masks, without_terminals, cleared_group}
use Rattle.registers.specs.Ports.{write_port, read_port}
use Rattle.registers.specs.File.{channel_of, at_group_of, at_dma, with_channel, with_service, programmed, picked, over_in, refusal_at}
use Rattle.registers.specs.File.{field_written, control_written, list_written, accepted_at, written_for, written, field_read, read_at, read_for, read_leaves, lined}

-- the slots last chosen in both groups
abbrev pub lasts : Registers → ℕ × ℕ
lasts k = (k.first.last, k.second.last)

-- what an access leaves: both slots, unless it is a group's master clear
pub data Left (k : Registers) : Registers → Type 0 where
  stay : {m : Registers} → lasts m ≡ lasts k → Left k m
  clear : (d : Dma) (o : Option ℕ) → Left k (with_service o (at_dma d cleared_group k))

-- a change of one group that leaves its slot leaves both
module _ (f : Group → Group) (same : (g : Group) → (f g).last ≡ g.last) (k : Registers) where
  dma_stays : (d : Dma) → lasts (at_dma d f k) ≡ lasts k
  dma_stays One = ap (λ (n : ℕ). (n, k.second.last)) (same k.first)
  dma_stays Two = ap (λ (n : ℕ). (k.first.last, n)) (same k.second)

  group_stays : (c : ℕ) → lasts (at_group_of c f k) ≡ lasts k
  group_stays c = cond_both (ltb c 4) _ _ (λ m. lasts m ≡ lasts k) (λ _. dma_stays One) (λ _. dma_stays Two)

pub channel_stays : (c : ℕ) (ch : Channel) (k : Registers) → lasts (with_channel c ch k) ≡ lasts k
channel_stays c ch k = group_stays (with_slot c ch) (λ g. refl) k c

flip_stays : (c : ℕ) (ch : Channel) (k : Registers) → lasts (at_group_of c flipped (programmed c ch k)) ≡ lasts k
flip_stays c ch k = group_stays flipped (λ g. refl) (programmed c ch k) c ∙ channel_stays c ch k

field_stays : (f : Field) (c v : ℕ) (k : Registers) → lasts (field_written f c v k) ≡ lasts k
field_stays field.Address c v k = flip_stays c _ k
field_stays field.Count c v k = flip_stays c _ k
field_stays field.LowPage c v k = channel_stays c _ k
field_stays field.HighPage c v k = channel_stays c _ k
field_stays (field.Table n) c v k = channel_stays c _ k

list_stays : (c v : ℕ) (k : Registers) → lasts (list_written c v k) ≡ lasts k
list_stays c v k = cond_both (list_begins v (channel_of k c)) _ _ (λ m. lasts m ≡ lasts k) (λ _. channel_stays c _ k) (λ _. channel_stays c _ k)

control_left : (x : Control) (d : Dma) (v : ℕ) (k : Registers) → Left k (control_written x d v k)
control_left control.Command d v k = stay (dma_stays (with_command v) (λ g. refl) k d)
control_left control.Request d v k = stay (channel_stays (picked d v) _ k)
control_left control.Mask d v k = stay (channel_stays (picked d v) _ k)
control_left control.Mode d v k = stay (channel_stays (picked d v) _ k)
control_left control.ExtendedMode d v k = stay (channel_stays (picked d v) _ k)
control_left control.ClearPointer d v k = stay (dma_stays (with_pointer false) (λ g. refl) k d)
control_left control.MasterClear d v k = clear d (over_in d k.service)
control_left control.ClearMasks d v k = stay (dma_stays (with_masks 0) (λ g. refl) k d)
control_left control.AllMasks d v k = stay (dma_stays (with_masks v) (λ g. refl) k d)

accepted_left : (w : WritePort) (v : ℕ) (k : Registers) → Left k (accepted_at w v k)
accepted_left (write.Field f c) v k = stay (field_stays f c v k)
accepted_left (write.ListCommand c) v k = stay (list_stays c v k)
accepted_left (write.Control x d) v k = control_left x d v k

-- a refused access leaves everything
port_left : (w : Option WritePort) (v : ℕ) (k : Registers) → Left k (written_for w v k)
port_left None v k = stay refl
port_left (Some w) v k = cond_both (eqb (refusal_at k w v) 0) _ _ (Left k) (λ _. accepted_left w v k) (λ _. stay refl)

pub write_left : (p v : ℕ) (k : Registers) → Left k (written p v k)
write_left p v k = port_left (write_port p) v k

field_read_stays : (f : Field) (c : ℕ) (k : Registers) → lasts (field_read f c k) ≡ lasts k
field_read_stays field.Address c k = group_stays flipped (λ g. refl) k c
field_read_stays field.Count c k = group_stays flipped (λ g. refl) k c
field_read_stays field.LowPage c k = refl
field_read_stays field.HighPage c k = refl
field_read_stays (field.Table n) c k = refl

port_stays : (p : ReadPort) (k : Registers) → lasts (read_at p k) ≡ lasts k
port_stays (read.Field f c) k = field_read_stays f c k
port_stays (read.ListStatus c) k = refl
port_stays (read.Status d) k = dma_stays without_terminals (λ g. refl) k d
port_stays (read.AllMasks d) k = refl
port_stays read.Irq13 k = refl

read_for_stays : (p : Option ReadPort) (k : Registers) → lasts (read_for p k) ≡ lasts k
read_for_stays None k = refl
read_for_stays (Some p) k = port_stays p k

pub read_stays : (p : ℕ) (k : Registers) → lasts (read_leaves p k) ≡ lasts k
read_stays p k = read_for_stays (read_port p) k

pub lines_stay : (v : ℕ) (k : Registers) → lasts (lined v k) ≡ lasts k
lines_stay v k = cond_both (flag 16 v) _ _ (λ m. lasts m ≡ lasts k) (λ _. refl) (λ _. refl)
