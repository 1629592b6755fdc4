-- Every port names one of the channels 0 to 7.
use Rattle.std.proofs.Common.{◌≡◌, ℕ, ◌-◌, ◌/◌, ◌%◌, ◌<◌, Bool, true, false, cond, eqb, ltb, Some, None, Option, refl, arith, lit<}
use Rattle.registers.specs.declared.ports.Dma.{Dma}
use Rattle.registers.specs.declared.ports.Dma.TheVariants.{One, Two}
use Rattle.registers.specs.declared.ports.Field.{Field}
use Rattle.registers.specs.declared.ports.Field.TheVariants.{Table}
use Rattle.registers.specs.declared.ports.Control.{Control}
use Rattle.registers.specs.declared.ports.WritePort.{WritePort}
use Rattle.registers.specs.declared.ports.WritePort.TheVariants as target
use Rattle.registers.specs.Ports.{span_port, page_port, table_port, field_port, control_port, list_channel, or_else, written_field, written_control, written_list, write_port}
use Rattle.registers.specs.File.{picked}

-- a channel below eight, if one is named
abbrev Below : Option (Field × ℕ) → Type 0
Below None = Unit {0}
Below (Some x) = x.1 < 8

choose : (b : Bool) (x y : Option (Field × ℕ)) → Below x → Below y → Below (cond b x y)
choose true x y p q = p
choose false x y p q = q

or_below : (x y : Option (Field × ℕ)) → Below x → Below y → Below (or_else x y)
or_below None y p q = q
or_below (Some x) y p q = p

span_below : (p : ℕ) → Below (span_port p)
span_below p =
    choose (eqb p 0x00) _ _ (lit< tt) (
    choose (eqb p 0x02) _ _ (lit< tt) (
    choose (eqb p 0x04) _ _ (lit< tt) (
    choose (eqb p 0x06) _ _ (lit< tt) (
    choose (eqb p 0xC4) _ _ (lit< tt) (
    choose (eqb p 0xC8) _ _ (lit< tt) (
    choose (eqb p 0xCC) _ _ (lit< tt) (
    choose (eqb p 0x01) _ _ (lit< tt) (
    choose (eqb p 0x03) _ _ (lit< tt) (
    choose (eqb p 0x05) _ _ (lit< tt) (
    choose (eqb p 0x07) _ _ (lit< tt) (
    choose (eqb p 0xC6) _ _ (lit< tt) (
    choose (eqb p 0xCA) _ _ (lit< tt) (
    choose (eqb p 0xCE) _ _ (lit< tt) (
    tt))))))))))))))

page_below : (p : ℕ) → Below (page_port p)
page_below p =
    choose (eqb p 0x87) _ _ (lit< tt) (
    choose (eqb p 0x83) _ _ (lit< tt) (
    choose (eqb p 0x81) _ _ (lit< tt) (
    choose (eqb p 0x82) _ _ (lit< tt) (
    choose (eqb p 0x8B) _ _ (lit< tt) (
    choose (eqb p 0x89) _ _ (lit< tt) (
    choose (eqb p 0x8A) _ _ (lit< tt) (
    choose (eqb p 0x487) _ _ (lit< tt) (
    choose (eqb p 0x483) _ _ (lit< tt) (
    choose (eqb p 0x481) _ _ (lit< tt) (
    choose (eqb p 0x482) _ _ (lit< tt) (
    choose (eqb p 0x48B) _ _ (lit< tt) (
    choose (eqb p 0x489) _ _ (lit< tt) (
    choose (eqb p 0x48A) _ _ (lit< tt) (
    tt))))))))))))))

table_below : (p : ℕ) → Below (table_port p)
table_below p = go (ltb p 0x420) (ltb p 0x440) (eqb ((p - 0x420) / 4) 4) refl
  where
    go : (a b e : Bool) → ltb p 0x440 ≡ b → Below (cond a None (cond b (cond e None (Some (Table ((p - 0x420) % 4), (p - 0x420) / 4))) None))
    go true b e q = tt
    go false true true q = tt
    go false true false q = grind arith
    go false false e q = tt

field_below : (p : ℕ) → Below (field_port p)
field_below p = or_below (span_port p) _ (span_below p) (or_below (page_port p) _ (page_below p) (table_below p))

-- the channel of a list register is below eight
abbrev BelowN : Option ℕ → Type 0
BelowN None = Unit {0}
BelowN (Some c) = c < 8

list_below : (p first : ℕ) → BelowN (list_channel p first)
list_below p first = go (ltb p first) (ltb (p - first) 8) (eqb (p - first) 4) refl
  where
    go : (a b e : Bool) → ltb (p - first) 8 ≡ b → BelowN (cond a None (cond b (cond e None (Some (p - first))) None))
    go true b e q = tt
    go false true true q = tt
    go false true false q = grind arith
    go false false e q = tt

pub picked_below : (d : Dma) (v : ℕ) → picked d v < 8
picked_below One v = omega arith
picked_below Two v = omega arith

-- what a write reaches names channels below eight
abbrev pub Reaches : WritePort → Type 0
Reaches (target.Field f c) = c < 8
Reaches (target.ListCommand c) = c < 8
Reaches (target.Control x d) = Unit {0}

abbrev pub ReachesIf : Option WritePort → Type 0
ReachesIf None = Unit {0}
ReachesIf (Some w) = Reaches w

or_reaches : (x y : Option WritePort) → ReachesIf x → ReachesIf y → ReachesIf (or_else x y)
or_reaches None y p q = q
or_reaches (Some x) y p q = p

field_reaches : (x : Option (Field × ℕ)) → Below x → ReachesIf (written_field x)
field_reaches None h = tt
field_reaches (Some x) h = h

control_reaches : (x : Option (Control × Dma)) → ReachesIf (written_control x)
control_reaches None = tt
control_reaches (Some x) = tt

list_reaches : (x : Option ℕ) → BelowN x → ReachesIf (written_list x)
list_reaches None h = tt
list_reaches (Some c) h = h

pub port_reaches : (p : ℕ) → ReachesIf (write_port p)
port_reaches p = or_reaches (written_field (field_port p)) _ (field_reaches (field_port p) (field_below p))
    (or_reaches (written_control (control_port p)) _ (control_reaches (control_port p)) (list_reaches (list_channel p 0x410) (list_below p 0x410)))
