-- A channel that asks comes nearer with each choice of another, and no channel of a cleared group asks.
use Rattle.std.proofs.Common.{◌≡◌, ℕ, ◌+◌, ◌<◌, ◌≤◌, Bool, true, false, ◌&&◌, ◌≢◌, Some, None, Option, unwrap_or, refl, ◌∙◌, arith}
use Rattle.std.proofs.lemmas.Bool.{both_ways}
use Rattle.arbiter.specs.declared.groups.Choice.{Choice}
use Rattle.arbiter.specs.Slots.{flag_of}
use Rattle.arbiter.specs.Waiting.{gap}
use Rattle.arbiter.specs.Groups.{distance, ServedBy, Served, FirstNearer, SecondNearer}
use Rattle.arbiter.proofs.Masks.{below_four, bits_of_mask}
use Rattle.registers.specs.declared.file.Registers.{Registers}
use Rattle.registers.specs.declared.ports.Dma.{Dma}
use Rattle.registers.specs.declared.ports.Dma.TheVariants.{One, Two}
use Rattle.registers.specs.Groups.{cleared_group}
use Rattle.registers.specs.File.{channel_of, at_dma, with_service}
use Rattle.controller.specs.Asking.{asks}
use Rattle.controller.specs.Steps.{State, choice_of}
use Rattle.runs.specs.Law.{Asking}
use Rattle.runs.proofs.Lasts.{lasts}
use Rattle.runs.proofs.Chosen.{Slots, first_group, second_group, choice_won}

-- how many choices can come before a channel of the first group, and before slot n of the second
abbrev pub first_away : ℕ → ℕ × ℕ → ℕ
first_away c l = distance c l.0 l.1

abbrev pub second_away : ℕ → ℕ × ℕ → ℕ
second_away n l = gap n l.1

-- channel c is chosen, or the choice brings it nearer
abbrev pub Nearer : ℕ → (ℕ × ℕ → ℕ) → Registers → Option Choice → Type 0
Nearer c away k None = ⊥
Nearer c away k (Some w) = c ≢ w.channel → away (unwrap_or w.first k.first.last, w.second) + 1 ≤ away (lasts k)

-- the sides' masks say who asks
first_asks : (k : Registers) (c : ℕ) → c < 4 → (first_group k).asks c ≡ asks k c
first_asks k c h =
    bits_of_mask (asks k 0) (asks k 1) (asks k 2) (asks k 3) c h
    ∙ below_four (λ c. flag_of (asks k 0) (asks k 1) (asks k 2) (asks k 3) c ≡ asks k c) refl refl refl refl c h

second-asks : (k : Registers) (n : ℕ) → 0 < n → n < 4 → (second_group k).asks n ≡ asks k (n + 4)
second-asks k n p h =
    bits_of_mask false (asks k 5) (asks k 6) (asks k 7) n h
    ∙ below_four (λ n. 0 < n → flag_of false (asks k 5) (asks k 6) (asks k 7) n ≡ asks k (n + 4))
    (λ z. absurd (omega arith)) (λ z. refl) (λ z. refl) (λ z. refl) n h p

first_by : (k : Registers) (c : ℕ) (r : Option Choice) → FirstNearer c (first_group k) (second_group k) r → Nearer c (first_away c) k r
first_by k c None h = h
first_by k c (Some w) h = h

-- channels 0 to 3, both groups rotating
pub first_nearer : (s : State) (c : ℕ) → c < 4 → Slots (lasts s.registers) → Asking c s
    → Nearer c (first_away c) s.registers (choice_of s.registers)
first_nearer s c h l a =
    let k = s.registers in
    first_by k c (choice_of k) ((choice_won k).waits_first (a.2 h) a.1 l.0 l.1 c h (first_asks k c h ∙ a.0))

-- the slot of another channel is another slot
other_slot : (k : Registers) (n channel s : ℕ) (o : Option ℕ) → 0 < n → ServedBy (first_group k) (second_group k) channel s o → n + 4 ≢ channel → n ≢ s
other_slot k n channel s None p v e = omega (arith, v.0)
other_slot k n channel s (Some d) p v e = omega (arith, v.1)

second_by : (k : Registers) (n : ℕ) (r : Option Choice) → 0 < n → Served (first_group k) (second_group k) r
    → SecondNearer n (second_group k) r → Nearer (n + 4) (second_away n) k r
second_by k n None p v h = h
second_by k n (Some w) p v h = λ e. h (other_slot k n w.channel w.second w.first p v e)

-- slots 1 to 3 of the second group, the channels 5 to 7, that group rotating
pub second_nearer : (s : State) (n : ℕ) → 0 < n → n < 4 → Slots (lasts s.registers) → Asking (n + 4) s
    → Nearer (n + 4) (second_away n) s.registers (choice_of s.registers)
second_nearer s n p h l a =
    let k = s.registers in
    second_by k n (choice_of k) p (choice_won k).asks ((choice_won k).waits_second a.1 l.1 n p h (second-asks k n p h ∙ a.0))

-- the registers after a group's master clear
abbrev pub cleared_by : Dma → Option ℕ → Registers → Registers
cleared_by d o k = with_service o (at_dma d cleared_group k)

-- masked and without a request a channel does not ask
masked_quiet : (k : Registers) (c : ℕ) → (channel_of k c).mask ≡ true → (channel_of k c).request ≡ false → asks k c ≡ false
masked_quiet k c m r = grind arith

first_quiet : (k : Registers) (o : Option ℕ) (c : ℕ) → c < 4 → asks (cleared_by One o k) c ≡ false
first_quiet k o =
    let m = cleared_by One o k in
    below_four (λ c. asks m c ≡ false) (masked_quiet m 0 refl refl) (masked_quiet m 1 refl refl) (masked_quiet m 2 refl refl) (masked_quiet m 3 refl refl)

second_quiet : (k : Registers) (o : Option ℕ) (n : ℕ) → n < 4 → asks (cleared_by Two o k) (n + 4) ≡ false
second_quiet k o =
    let m = cleared_by Two o k in
    below_four (λ n. asks m (n + 4) ≡ false) (masked_quiet m 4 refl refl) (masked_quiet m 5 refl refl) (masked_quiet m 6 refl refl) (masked_quiet m 7 refl refl)

-- with channel 4 masked nobody of the first group may have the bus
closed : (enabled wanted : Bool) → ((enabled && (true && false)) && wanted) ≡ false
closed enabled wanted = grind arith

outer_quiet : (k : Registers) (o : Option ℕ) (c : ℕ) → c < 4 → asks (cleared_by Two o k) c ≡ false
outer_quiet k o = below_four (λ c. asks (cleared_by Two o k) c ≡ false) (closed _ _) (closed _ _) (closed _ _) (closed _ _)

-- after a master clear a channel that still asks is as near as before
pub first_cleared : (k : Registers) (d : Dma) (o : Option ℕ) (c : ℕ) → c < 4 → asks (cleared_by d o k) c ≡ true
    → first_away c (lasts (cleared_by d o k)) ≡ first_away c (lasts k)
first_cleared k One o c h a = absurd (both_ways (asks (cleared_by One o k) c) (first_quiet k o c h) a)
first_cleared k Two o c h a = absurd (both_ways (asks (cleared_by Two o k) c) (outer_quiet k o c h) a)

pub second-cleared : (k : Registers) (d : Dma) (o : Option ℕ) (n : ℕ) → n < 4 → asks (cleared_by d o k) (n + 4) ≡ true
    → second_away n (lasts (cleared_by d o k)) ≡ second_away n (lasts k)
second-cleared k One o n h a = refl
second-cleared k Two o n h a = absurd (both_ways (asks (cleared_by Two o k) (n + 4)) (second_quiet k o n h) a)
