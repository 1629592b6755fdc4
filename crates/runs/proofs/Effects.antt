-- What one call does to the plan of channel c: nothing, a Stop, a transfer, or a fetch.
use Rattle.std.proofs.Common.{◌≡◌, ℕ, ◌<◌, Bool, true, false, cond, not, ◌&&◌, eqb, ◌⊎◌, Some, None, Ok, Err, Result, refl, ap, ◌∙◌, subst, inl, inr, arith}
use Rattle.std.proofs.lemmas.Bool.{not-true, not-false, and_parts}
use Rattle.registers.specs.declared.channel.Channel.{Channel}
use Rattle.registers.specs.Modes.{is_cascade}
use Rattle.registers.specs.File.{channel_of}
use Rattle.controller.specs.declared.event.Event.{Event}
use Rattle.controller.specs.declared.fault.Fault.{Fault}
use Rattle.controller.specs.declared.fetching.Fetched.{Fetched as Found}
use Rattle.controller.specs.Outside.{Outside}
use Rattle.controller.specs.Passing.{passes, passed}
use Rattle.controller.specs.Asking.{fetches, is_open, has_place}
use Rattle.controller.specs.Fetching.{fetch_of, filled}
use Rattle.controller.specs.Steps.{State, moves, fills, lends, fetch_step, transfer_of, settled, serve, failed}
use Rattle.runs.specs.Words.{Move, moved_by, of_channel, fetched_by}
use Rattle.runs.proofs.Slots.{Four, channel_same, channel_other}
use Rattle.runs.proofs.Parts.{part_of}

-- a channel that can transfer: its list, if it is active, has a current entry
abbrev pub Ready : Channel → Type 0
Ready ch = ch.list.active ≡ true → ch.list.loaded ≡ true

-- a channel that can fetch: its list is active, and either has no current entry, or is open with no reserve
abbrev pub CanFetch : Channel → Type 0
CanFetch ch = (ch.list.active ≡ true) × ((ch.list.loaded ≡ false) ⊎ ((is_open ch.list ≡ true) × (has_place ch.list ≡ true)))

-- what a step did to channel c, which had the registers ch while the world was o
pub data Stepped (c : ℕ) (ch : Channel) (o : Outside) (p : State × Result Event Fault) : Type 0 where
  -- nothing
  rests : of_channel c (moved_by p.1) ≡ None → fetched_by c p.1 ≡ None → part_of (channel_of p.0.registers c) ≡ part_of ch → Stepped c ch o p
  -- a transfer
  goes : (m : Move) → of_channel c (moved_by p.1) ≡ Some m → fetched_by c p.1 ≡ None → m.address ≡ passes ch
      → m.signal ≡ (passed ch).signal → channel_of p.0.registers c ≡ (passed ch).channel → Ready ch → Stepped c ch o p
  -- a fetch
  gets : (x : Found) → of_channel c (moved_by p.1) ≡ None → fetched_by c p.1 ≡ Some ch.list.next
      → fetch_of o.kinds o.bytes c ch.list ≡ Ok x → channel_of p.0.registers c ≡ filled x ch → CanFetch ch → p.0.world ≡ o → Stepped c ch o p

module _ (c : ℕ) (hc : c < 8) where
  -- its own fault leaves its part
  fault_rests : (s t : State) (e : Fault) → Four t.registers → part_of (channel_of t.registers c) ≡ part_of (channel_of s.registers c)
      → Stepped c (channel_of s.registers c) s.world (failed c t, Err e)
  fault_rests s t e f h = rests refl refl (ap part_of (channel_same t.registers c _ f hc) ∙ h)

  own_moves : (s : State) (p : Outside × Result ℕ Fault) → Four s.registers → Ready (channel_of s.registers c) → Stepped c (channel_of s.registers c) s.world (settled c (moves s c p))
  own_moves s (o, Ok u) f r =
      let e : eqb c c ≡ true = grind arith in
      goes (record { channel = c; address = passes (channel_of s.registers c); unit = u; signal = (passed (channel_of s.registers c)).signal })
      (rw e) refl refl refl (channel_same s.registers c _ f hc) r
  own_moves s (o, Err e) f r = fault_rests s _ e f refl

  own_fills : (s : State) (r : Result Found Fault) → fetch_of s.world.kinds s.world.bytes c (channel_of s.registers c).list ≡ r
      → Four s.registers → CanFetch (channel_of s.registers c) → Stepped c (channel_of s.registers c) s.world (settled c (fills s c r))
  own_fills s (Ok x) q f can =
      let e : eqb c c ≡ true = grind arith in
      gets x refl (rw e) q (channel_same s.registers c _ f hc) can refl
  own_fills s (Err e) q f can = fault_rests s s e f refl

  other_moves : (s : State) (d : ℕ) (p : Outside × Result ℕ Fault) → Four s.registers → d < 8 → eqb c d ≡ false → Stepped c (channel_of s.registers c) s.world (settled d (moves s d p))
  other_moves s d (o, Ok u) f hd q = rests (rw q) refl (ap part_of (channel_other s.registers c d _ f hc hd q))
  other_moves s d (o, Err e) f hd q = rests refl refl (ap part_of (channel_other s.registers c d _ f hc hd q))

  other_fills : (s : State) (d : ℕ) (r : Result Found Fault) → Four s.registers → d < 8 → eqb c d ≡ false → Stepped c (channel_of s.registers c) s.world (settled d (fills s d r))
  other_fills s d (Ok x) f hd q = rests refl (rw q) (ap part_of (channel_other s.registers c d _ f hc hd q))
  other_fills s d (Err e) f hd q = rests refl refl (ap part_of (channel_other s.registers c d _ f hc hd q))

  ready_or : (ch : Channel) → (ch.list.active && not ch.list.loaded) ≡ false → Ready ch
  ready_or ch e h = not-false ch.list.loaded (rw h at e)

  unloaded : (ch : Channel) → (ch.list.active && not ch.list.loaded) ≡ true → CanFetch ch
  unloaded ch e = let h = and_parts ch.list.active (not ch.list.loaded) e in (h.0, inl (not-true ch.list.loaded h.1))

  -- a channel in service, c itself or another
  own_serve : (s : State) (p q : Bool) → ((channel_of s.registers c).list.active && not (channel_of s.registers c).list.loaded) ≡ q → Four s.registers
      → Stepped c (channel_of s.registers c) s.world (settled c (cond p (lends s c) (cond q (fetch_step s c) (transfer_of s c))))
  own_serve s true q e f = rests refl refl refl
  own_serve s false true e f = own_fills s _ refl f (unloaded (channel_of s.registers c) e)
  own_serve s false false e f = own_moves s _ f (ready_or (channel_of s.registers c) e)

  other_serve : (s : State) (d : ℕ) (p q : Bool) → Four s.registers → d < 8 → eqb c d ≡ false
      → Stepped c (channel_of s.registers c) s.world (settled d (cond p (lends s d) (cond q (fetch_step s d) (transfer_of s d))))
  other_serve s d true q f hd e = rests refl refl refl
  other_serve s d false true f hd e = other_fills s d _ f hd e
  other_serve s d false false f hd e = other_moves s d _ f hd e

  pub serve_steps : (s : State) (d : ℕ) → Four s.registers → d < 8 → Stepped c (channel_of s.registers c) s.world (serve s d)
  serve_steps s d f hd = go (eqb c d) refl
    where
      go : (q : Bool) → eqb c d ≡ q → Stepped c (channel_of s.registers c) s.world (serve s d)
      go true q =
          let same : c ≡ d = grind arith in
          let P : ℕ → Type 0 = λ x. Stepped c (channel_of s.registers c) s.world (serve s x) in
          subst P same (own_serve s (is_cascade (channel_of s.registers c).mode.service) _ refl f)
      go false q = other_serve s d (is_cascade (channel_of s.registers d).mode.service) ((channel_of s.registers d).list.active && not (channel_of s.registers d).list.loaded) f hd q

  pub ahead_steps : (s : State) (d : ℕ) → Four s.registers → d < 8 → fetches s.registers d ≡ true → Stepped c (channel_of s.registers c) s.world (settled d (fetch_step s d))
  ahead_steps s d f hd g = go (eqb c d) refl
    where
      can : (ch : Channel) → (not ch.mask && (is_open ch.list && has_place ch.list)) ≡ true → CanFetch ch
      can ch e = let o : is_open ch.list ≡ true = grind arith in let h : has_place ch.list ≡ true = grind arith in let a : ch.list.active ≡ true = grind arith in (a, inr (o, h))

      go : (q : Bool) → eqb c d ≡ q → Stepped c (channel_of s.registers c) s.world (settled d (fetch_step s d))
      go true q =
          let same : c ≡ d = grind arith in
          let P : ℕ → Type 0 = λ x. fetches s.registers x ≡ true → Stepped c (channel_of s.registers c) s.world (settled x (fetch_step s x)) in
          subst P same (λ e. own_fills s _ refl f (can (channel_of s.registers c) e)) g
      go false q = other_fills s d _ f hd q
