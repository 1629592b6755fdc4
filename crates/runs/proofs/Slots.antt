-- Looking a channel up after another is put: groups have four channels each.
use Rattle.std.proofs.Common.{◌≡◌, ℕ, ◌%◌, ◌<◌, Bool, true, false, cond, eqb, ltb, ◌≢◌, List, length, get_or, set, refl, ap, ◌∙◌, arith}
use Rattle.std.proofs.lemmas.List.{get_or-set_same, get_or-set_other, length-set}
use Rattle.registers.specs.declared.channel.Channel.{Channel}
use Rattle.registers.specs.declared.group.Group.{Group}
use Rattle.registers.specs.declared.file.Registers.{Registers}
use Rattle.registers.specs.Channels.{blank}
use Rattle.registers.specs.Groups.{slot_of, with_slot}
use Rattle.registers.specs.File.{channel_of, with_channel}

-- both groups have four channels
abbrev pub Four : Registers → Type 0
Four k = (length k.first.channels ≡ 4) × (length k.second.channels ≡ 4)

slot_at : (cs : List Channel) (n m : ℕ) (x : Channel) (q : Bool) → eqb n m ≡ q → length cs ≡ 4 → n < 4 → m < 4
    → get_or (set cs m x) n blank ≡ cond q x (get_or cs n blank)
slot_at cs n m x true e l h k =
    let same : n ≡ m = grind arith in
    let low : m < length cs = omega arith in
    rw same (get_or-set_same cs m x blank low)
slot_at cs n m x false e l h k =
    let apart : n ≢ m = λ p. (let z : eqb n m ≡ true = grind arith in let no_way : ⊥ = grind arith in no_way) in
    get_or-set_other cs m n x blank apart

pub slot_set : (g : Group) (n m : ℕ) (x : Channel) → length g.channels ≡ 4 → slot_of (with_slot m x g) n ≡ cond (eqb (n % 4) (m % 4)) x (slot_of g n)
slot_set g n m x l = slot_at g.channels (n % 4) (m % 4) x (eqb (n % 4) (m % 4)) refl l (omega arith) (omega arith)

-- a channel looked up after another was put
pub channel_with : (k : Registers) (c d : ℕ) (x : Channel) → Four k → c < 8 → d < 8 → channel_of (with_channel d x k) c ≡ cond (eqb c d) x (channel_of k c)
channel_with k c d x f hc hd = go (ltb c 4) (ltb d 4) refl refl
  where
    go : (p q : Bool) → ltb c 4 ≡ p → ltb d 4 ≡ q → channel_of (with_channel d x k) c ≡ cond (eqb c d) x (channel_of k c)
    go true true p q =
        let e : eqb (c % 4) (d % 4) ≡ eqb c d = (let u : c % 4 ≡ c = grind arith in let v : d % 4 ≡ d = grind arith in rw (u, v)) in
        rw (p, q) (slot_set k.first c d x f.0 ∙ ap (λ b. cond b x (slot_of k.first c)) e)
    go true false p q =
        let e : eqb c d ≡ false = grind arith in
        rw (p, q, e)
    go false true p q =
        let e : eqb c d ≡ false = grind arith in
        rw (p, q, e)
    go false false p q =
        let e : eqb (c % 4) (d % 4) ≡ eqb c d = grind arith in
        rw (p, q) (slot_set k.second c d x f.1 ∙ ap (λ b. cond b x (slot_of k.second c)) e)

pub channel_same : (k : Registers) (c : ℕ) (x : Channel) → Four k → c < 8 → channel_of (with_channel c x k) c ≡ x
channel_same k c x f h = let e : eqb c c ≡ true = grind arith in channel_with k c c x f h h ∙ rw e

pub channel_other : (k : Registers) (c d : ℕ) (x : Channel) → Four k → c < 8 → d < 8 → eqb c d ≡ false → channel_of (with_channel d x k) c ≡ channel_of k c
channel_other k c d x f h j e = channel_with k c d x f h j ∙ rw e

-- four channels stay four
pub four_with : (k : Registers) (d : ℕ) (x : Channel) → Four k → Four (with_channel d x k)
four_with k d x f = go (ltb d 4) refl
  where
    go : (q : Bool) → ltb d 4 ≡ q → Four (with_channel d x k)
    go true q = rw q (length-set k.first.channels (d % 4) x ∙ f.0, f.1)
    go false q = rw q (f.0, length-set k.second.channels (d % 4) x ∙ f.1)
