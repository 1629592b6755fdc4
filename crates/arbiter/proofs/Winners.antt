-- The laws of the choice between two groups.
use Rattle.std.proofs.Common.{◌≡◌, ℕ, ◌+◌, ◌<◌, ◌≤◌, Bool, true, false, cond, eqb, is_some, Some, None, Option, sym, refl, ap, ◌∙◌, ap₂, arith}
use Rattle.std.proofs.lemmas.Bool.{both_ways, or_left, or_right, or_parts, eqb-true, eqb-false, ne_eqb}
use Rattle.arbiter.specs.declared.groups.Choice.{Choice}
use lib.Bits.{bit_and, bit_or}
use mir.Val.{bool_byte}
use Rattle.arbiter.specs.declared.groups.Side.{Side}
use Rattle.arbiter.specs.Slots.{asks_in, chosen_slot}
use Rattle.arbiter.specs.Waiting.{Asking, Chosen}
use Rattle.arbiter.specs.Groups.{Group, group_of, own_slot, some_asks, outer_asks, outer_slot, first_choice, second_choice, winner_of, Served, FirstNearer, SecondNearer, Won, distance}
use Rattle.arbiter.proofs.Chosen.{chosen, chosen_same}
use Rattle.arbiter.proofs.Masks.{below_four, bit_zero_put}

-- at most fifteen choices come before a channel of the first group
pub distance_bound : (c own outer : ℕ) → distance c own outer ≤ 15
distance_bound c own outer = omega arith

-- a group in which a slot asks has somebody that asks
one-asks : (ask : ℕ → Bool) (d : ℕ) → d < 4 → ask d ≡ true → some_asks ask ≡ true
one-asks ask =
    below_four (λ d. ask d ≡ true → some_asks ask ≡ true)
    (or_left (ask 0) _)
    (λ e. or_right (ask 0) _ (or_left (ask 1) _ e))
    (λ e. or_right (ask 0) _ (or_right (ask 1) _ (or_left (ask 2) _ e)))
    (λ e. or_right (ask 0) _ (or_right (ask 1) _ (or_right (ask 2) _ e)))

none_asks : (ask : ℕ → Bool) → some_asks ask ≡ false → (c : ℕ) → c < 4 → ask c ≡ false
none_asks ask e =
    let f = or_parts (ask 0) _ e in
    let g = or_parts (ask 1) _ f.1 in
    let h = or_parts (ask 2) _ g.1 in
    below_four (λ c. ask c ≡ false) f.0 g.0 h.0 h.1

-- somebody asks exactly where somebody is chosen
pub some_chosen : (ask : ℕ → Bool) (o : Option ℕ) → Asking ask o → is_some o ≡ some_asks ask
some_chosen ask None h = rw (h 0 (omega arith), h 1 (omega arith), h 2 (omega arith), h 3 (omega arith))
some_chosen ask (Some d) h = sym (one-asks ask d h.0 h.1)

module _ (first second : Group) where
  -- who wins, and how it came to it
  data Way : Option Choice → Type 0 where
    nobody : outer_slot first second ≡ None → Way None
    within : (d : ℕ) → outer_slot first second ≡ Some 0 → own_slot first ≡ Some d → Way (Some (record { channel = d; second = 0; first = Some d }))
    without : (s : ℕ) → 0 < s → outer_slot first second ≡ Some s → Way (Some (record { channel = s + 4; second = s; first = None }))

  outer_laws : (o : Option ℕ) → outer_slot first second ≡ o → Chosen (outer_asks first second) second.rotating second.last o
  outer_laws o e = chosen (outer_asks first second) second.rotating second.last o (sym e)

  own_laws : (o : Option ℕ) → own_slot first ≡ o → Chosen first.asks first.rotating first.last o
  own_laws o e = chosen first.asks first.rotating first.last o (sym e)

  -- slot 0 is chosen only if somebody of the first group is
  own_way : (i : Option ℕ) → outer_slot first second ≡ Some 0 → own_slot first ≡ i → Way (first_choice i)
  own_way None e f =
      absurd (both_ways (some_asks first.asks) (sym (some_chosen first.asks None (own_laws None f).asks)) (outer_laws (Some 0) e).asks.1)
  own_way (Some d) e f = within d e f

  slot_way : (s : ℕ) (b : Bool) → eqb s 0 ≡ b → outer_slot first second ≡ Some s
      → Way (cond b (first_choice (own_slot first)) (Some (record { channel = s + 4; second = s; first = None })))
  slot_way s true q e = own_way (own_slot first) (e ∙ ap Some (eqb-true s 0 q)) refl
  slot_way s false q e = let n = eqb-false s 0 q in without s (omega arith) e

  outer_way : (o : Option ℕ) → outer_slot first second ≡ o → Way (second_choice (own_slot first) o)
  outer_way None e = nobody e
  outer_way (Some s) e = slot_way s (eqb s 0) refl e

  -- what slot c of the second group asks is its own
  outer_asks_lem : (c : ℕ) → 0 < c → outer_asks first second c ≡ second.asks c
  outer_asks_lem c h = let n : eqb c 0 ≡ false = ne_eqb c 0 (omega arith) in rw n

  served : (r : Option Choice) → Way r → Served first second r
  served None (nobody e) = λ c l.
      let h = (outer_laws None e).asks in
      (none_asks first.asks (h 0 (omega arith)) c l, λ p. sym (outer_asks_lem c p) ∙ h c l)
  served (Some _) (within d e f) = let h = (own_laws (Some d) f).asks in (refl, refl, h.0, h.1)
  served (Some _) (without s p e) = let h = (outer_laws (Some s) e).asks in (refl, p, h.0, sym (outer_asks_lem s p) ∙ h.1)

  first_nearer : (r : Option Choice) → Way r → first.rotating ≡ true → second.rotating ≡ true → first.last < 4 → second.last < 4
      → (c : ℕ) → c < 4 → first.asks c ≡ true → FirstNearer c first second r
  first_nearer None (nobody e) t u l m c h a =
      (outer_laws None e).waits u m 0 (omega arith) (one-asks first.asks c h a)
  first_nearer (Some _) (within d e f) t u l m c h a = λ n.
      let k = (own_laws (Some d) f).waits t l c h a n in
      omega (arith, k)
  first_nearer (Some _) (without s p e) t u l m c h a = λ n.
      let k = (outer_laws (Some s) e).waits u m 0 (omega arith) (one-asks first.asks c h a) (omega arith) in
      omega (arith, k)

  second_nearer : (r : Option Choice) → Way r → second.rotating ≡ true → second.last < 4
      → (c : ℕ) → 0 < c → c < 4 → second.asks c ≡ true → SecondNearer c second r
  second_nearer None (nobody e) u m c p h a = (outer_laws None e).waits u m c h (outer_asks_lem c p ∙ a)
  second_nearer (Some _) (within d e f) u m c p h a = (outer_laws (Some 0) e).waits u m c h (outer_asks_lem c p ∙ a)
  second_nearer (Some _) (without s q e) u m c p h a = (outer_laws (Some s) e).waits u m c h (outer_asks_lem c p ∙ a)

  pub won : (r : Option Choice) → r ≡ winner_of first second → Won first second r
  won r e =
      let w : Way r = rw e (outer_way (outer_slot first second) refl) in
      record { value = e; asks = served r w; waits_first = first_nearer r w; waits_second = second_nearer r w }

-- two groups in which the same slots ask, under one priority and with one slot last chosen
abbrev pub Alike : Group → Group → Type 0
Alike f g = ((k : ℕ) → k < 4 → f.asks k ≡ g.asks k) × (f.rotating ≡ g.rotating) × (f.last ≡ g.last)

some_same : (f g : ℕ → Bool) → ((k : ℕ) → k < 4 → f k ≡ g k) → some_asks f ≡ some_asks g
some_same f g h = rw (h 0 (omega arith), h 1 (omega arith), h 2 (omega arith), h 3 (omega arith))

-- the choice between groups looks at their four slots alone
pub winner_same : (f g s t : Group) → Alike f g → Alike s t → winner_of f s ≡ winner_of g t
winner_same f g s t a b =
    let own : own_slot f ≡ own_slot g = chosen_same _ _ a.0 f.rotating f.last ∙ ap₂ (chosen_slot g.asks) a.1 a.2 in
    let seen : (k : ℕ) → k < 4 → outer_asks f s k ≡ outer_asks g t k =
    λ k l. ap₂ (cond (eqb k 0)) (some_same f.asks g.asks a.0) (b.0 k l) in
    ap₂ second_choice own (chosen_same _ _ seen s.rotating s.last ∙ ap₂ (chosen_slot (outer_asks g t)) b.1 b.2)

-- the masks of two sides, bit 0 of the second standing for the first, make the winner of their groups
pub sides_won : (f s : Side) (own outer : Option ℕ) (g : ℕ) (r : Option Choice) → Chosen (asks_in f.asking) f.rotating f.last own
    → g ≡ bool_byte (is_some own) → outer ≡ chosen_slot (asks_in (bit_or (bit_and s.asking 14) g)) s.rotating s.last
    → r ≡ second_choice own outer → Won (group_of f) (group_of s) r
sides_won f s own outer g r h p q e =
    let seen : (k : ℕ) → k < 4 → asks_in (bit_or (bit_and s.asking 14) g) k ≡ outer_asks (group_of f) (group_of s) k =
    λ k l. rw p (bit_zero_put s.asking (is_some own) k l) ∙ ap (λ b. cond (eqb k 0) b (asks_in s.asking k)) (some_chosen (asks_in f.asking) own h.asks) in
    won (group_of f) (group_of s) r (e ∙ ap₂ second_choice h.value (q ∙ chosen_same _ _ seen s.rotating s.last))
