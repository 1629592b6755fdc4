-- What stays true over a step: whatever each change that a step makes to the state keeps.
use Rattle.std.proofs.Common.{◌≡◌, ℕ, Bool, true, false, cond, not, ◌&&◌, Some, None, Ok, Err, Option, Result, refl}
use Rattle.std.proofs.lemmas.Bool.{cond_both}
use Rattle.arbiter.specs.declared.groups.Choice.{Choice}
use Rattle.registers.specs.declared.channel.Channel.{Channel}
use Rattle.registers.specs.Modes.{is_cascade}
use Rattle.registers.specs.File.{channel_of, with_channel, with_service}
use Rattle.controller.specs.declared.controller.Bus.{Bus}
use Rattle.controller.specs.declared.controller.Bus.TheVariants.{Home, Out, Taken}
use Rattle.controller.specs.declared.event.Event.{Event}
use Rattle.controller.specs.declared.fault.Fault.{Fault}
use Rattle.controller.specs.declared.fetching.Fetched.{Fetched as Found}
use Rattle.controller.specs.Outside.{Outside}
use Rattle.controller.specs.Asking.{goes_on, first_fetching}
use Rattle.controller.specs.Steps.{State, with_registers, with_world, with_bus, begun, served, moves, fills, lends, fetch_step, transfer_of, service_of, settled, serve, ahead_of, choose_of, choice_of, ongoing, go_or_choose, step_at}

-- P stays true where a channel is put, a good one's service goes on, a service is over, the world changes, or the bus goes out
pub record Keeps (P : State → Type 0) (Good : ℕ → Type 0) : Type 0 where
  pub put : (s : State) (c : ℕ) (x : Channel) → P s → P (with_registers (with_channel c x s.registers) s)
  pub serves : (s : State) (c : ℕ) → Good c → P s → P (with_registers (with_service (Some c) s.registers) s)
  pub idles : (s : State) → P s → P (with_registers (with_service None s.registers) s)
  pub carries : (s : State) (o : Outside) → P s → P (with_world o s)
  pub sends : (s : State) (c : ℕ) → P s → P (with_bus (Out c) s)

-- any channel is good
abbrev pub Any : ℕ → Type 0
Any c = Unit {0}

module _ (P : State → Type 0) (Good : ℕ → Type 0) (k : Keeps P Good) where
  settled_keeps : (c : ℕ) (p : State × Result Event Fault) → P p.0 → P (settled c p).0
  settled_keeps c (s, Ok e) h = h
  settled_keeps c (s, Err f) h = k.idles _ (k.put s c _ h)

  served_keeps : (s : State) (c : ℕ) (q : Bool) → Good c → P s → P (with_registers (with_service (served c q) s.registers) s)
  served_keeps s c true g h = k.idles s h
  served_keeps s c false g h = k.serves s c g h

  moves_keeps : (s : State) (c : ℕ) (p : Outside × Result ℕ Fault) → Good c → P s → P (moves s c p).0
  moves_keeps s c (o, Ok u) g h = k.carries _ o (served_keeps _ c _ g (k.put s c _ h))
  moves_keeps s c (o, Err e) g h = k.carries s o h

  fills_keeps : (s : State) (c : ℕ) (r : Result Found Fault) → P s → P (fills s c r).0
  fills_keeps s c (Ok x) h = k.put s c _ h
  fills_keeps s c (Err e) h = h

  either_keeps : (s : State) (c : ℕ) (p q : Bool) → Good c → P s → P (cond p (lends s c) (cond q (fetch_step s c) (transfer_of s c))).0
  either_keeps s c true q g h = k.sends s c h
  either_keeps s c false true g h = fills_keeps s c _ h
  either_keeps s c false false g h = moves_keeps s c _ g h

  pub serve_keeps : (s : State) (c : ℕ) → Good c → P s → P (serve s c).0
  serve_keeps s c g h =
      let ch = channel_of s.registers c in
      settled_keeps c (service_of s c) (either_keeps s c (is_cascade ch.mode.service) (ch.list.active && not ch.list.loaded) g h)

  pub ahead_keeps : (s : State) (o : Option ℕ) → P s → P (ahead_of s o).0
  ahead_keeps s None h = h
  ahead_keeps s (Some c) h = settled_keeps c (fetch_step s c) (fills_keeps s c _ h)

  -- and it stays true over a choice, which is of a good channel, as is the service that goes on
  module _ (chooses : (s : State) (w : Choice) → choice_of s.registers ≡ Some w → P s → Good w.channel × P (with_registers (begun w s.registers) s))
      (going : (s : State) (c : ℕ) → s.registers.service ≡ Some c → P s → Good c) where
    choose_keeps : (s : State) (o : Option Choice) → choice_of s.registers ≡ o → P s → P (choose_of s o).0
    choose_keeps s (Some w) e h = let b = chooses s w e h in serve_keeps _ w.channel b.0 b.1
    choose_keeps s None e h = ahead_keeps _ (first_fetching s.registers) (k.idles s h)

    ongoing_keeps : (s : State) (o : Option ℕ) → s.registers.service ≡ o → P s → P (go_or_choose s (ongoing s.registers o)).0
    ongoing_keeps s None e h = choose_keeps s (choice_of s.registers) refl h
    ongoing_keeps s (Some c) e h = cond_both (goes_on s.registers c) (Some c) None (λ o. P (go_or_choose s o).0)
        (λ _. serve_keeps s c (going s c e h) h) (λ _. choose_keeps s (choice_of s.registers) refl h)

    pub step_keeps : (s : State) (b : Bus) → P s → P (step_at s b).0
    step_keeps s Home h = ongoing_keeps s s.registers.service refl h
    step_keeps s (Out c) h = h
    step_keeps s (Taken c) h = h
