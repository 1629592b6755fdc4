-- The grant that is held, against where the bus is.
use Rattle.std.proofs.Common.{◌≡◌, ℕ, ◌<◌, true, false, cond, [], Some, None, Ok, Err, Option, Result, sym, refl, ap, subst, arith}
use Rattle.std.specs.Result.{IsOk}
use Rattle.registers.specs.declared.file.Registers.{Registers}
use Rattle.controller.specs.declared.controller.Bus.{Bus}
use Rattle.controller.specs.declared.controller.Bus.TheVariants.{Home, Out, Taken}
use Rattle.controller.specs.declared.grant.Grant.{Grant}
use Rattle.controller.specs.declared.grant.BusRefusal.{BusRefusal}
use Rattle.controller.specs.declared.grant.BusRefusal.TheVariants as bus
use Rattle.memory.specs.declared.kinds.Kind.TheVariants.{Absent}
use Rattle.memory.specs.declared.kinds.MemoryFault.TheVariants as memory
use Rattle.controller.specs.declared.controller.Controller.{Controller}
use Rattle.controller.specs.Outside.{Outside, Does}
use Rattle.controller.specs.Steps.{State, state_of, Becomes, with_registers, with_bus}
use Rattle.controller.specs.Grants.{take_number, took_bus, out_to, bus_number, holds, shown_release, released}
use Rattle.runs.specs.declared.calls.Call.{Call}
use Rattle.runs.specs.Told.{Told}
use Rattle.runs.specs.Calls.{Holding, granted_to, performed}

-- a refusal has a number above 0
pub refusal_shows : (e : BusRefusal) → 0 < bus_number e
refusal_shows bus.NotOffered = omega arith
refusal_shows bus.NotGranted = omega arith
refusal_shows (bus.Memory memory.Absent) = omega arith
refusal_shows (bus.Memory memory.ReadOnly) = omega arith

-- a world with nothing in it, for facts that hold over every world
abbrev pub nowhere : Outside
nowhere = record { kinds = λ _. Absent; bytes = λ _. 0; waiting = λ _. []; kept = λ _. []; free = λ _. 0 }

-- where the bus is after what a call makes of the state
pub bus_of : (was is : Controller) (f : State → State) → Becomes was is f → is.bus ≡ (f (state_of was nowhere)).bus
bus_of was is f h = ap (λ (x : State). x.bus) (h nowhere)

-- where no grant is held, none holds
pub none_holds : (b : Bus) → Holding None b → (g : ℕ) → holds b g ≡ false
none_holds Home h g = refl
none_holds (Out c) h g = refl
none_holds (Taken c) h g = absurd h

-- a grant that holds brings the bus home again
pub home_again : (s : State) (g : ℕ) → holds s.bus g ≡ true → (released g s).bus ≡ Home
home_again s g h = rw h

-- a call under another name for it
pub by_call : (s t : State) (r : Told) (k j : Call) → k ≡ j → Does (performed s j) t r → Does (performed s k) t r
by_call s t r k j e d = let P : Call → Type 0 = λ x. Does (performed s x) t r in subst P (sym e) d

-- a grant that is held is for the channel that the bus is out to, and holds
pub held_channel : (g : Grant) (b : Bus) → Holding (Some g) b → g.channel ≡ out_to b
held_channel g Home h = absurd h
held_channel g (Out c) h = absurd h
held_channel g (Taken c) h = h

pub held_holds : (g : Grant) (b : Bus) → Holding (Some g) b → holds b g.channel ≡ true
held_holds g Home h = absurd h
held_holds g (Out c) h = absurd h
held_holds g (Taken c) h = rw h (grind arith)

-- its release is not refused
pub accepted : (g : Grant) (b : Bus) (r : Result (Unit {0}) Grant) → Holding (Some g) b → shown_release r ≡ cond (holds b g.channel) 0 12 → IsOk r
accepted g b (Ok x) h e = refl
accepted g b (Err x) h e =
    let z : ◌≡◌ {A = ℕ} 12 0 = rw (held_holds g b h) at e in
    absurd (omega arith)

-- a grant stays held where the bus stays
pub still_held : (g : Option Grant) (b b' : Bus) → b' ≡ b → Holding g b → Holding g b'
still_held g b b' e h = let P : Bus → Type 0 = λ x. Holding g x in subst P (sym e) h

-- so it does where the registers alone change
pub keeps : (g : Option Grant) (was is : Controller) (k : Registers) → Becomes was is (with_registers k) → Holding g was.bus → Holding g is.bus
keeps g was is k e h = still_held g was.bus is.bus (bus_of was is (with_registers k) e) h

-- no grant is held after a release
pub let_go : (g : Option Grant) (was is : Controller) → Becomes was is (released (out_to was.bus)) → Holding g was.bus → Holding None is.bus
let_go g was is e h = still_held None _ is.bus (bus_of was is (released (out_to was.bus)) e) (free g was.bus refl h)
  where
    free : (g : Option Grant) (b : Bus) → was.bus ≡ b → Holding g b → Holding None (released (out_to b) (state_of was nowhere)).bus
    free None Home e h = rw e tt
    free None (Out c) e h = rw e tt
    free (Some g) (Taken c) e h = rw e (grind arith)
    free None (Taken c) e h = absurd h
    free (Some g) Home e h = absurd h
    free (Some g) (Out c) e h = absurd h

-- a take gives the bus that is out, and the grant of the channel that it is out to
pub taken : (g : Grant) (was is : Controller) → Becomes was is (with_bus (took_bus was.bus)) → 0 ≡ take_number was.bus → g.channel ≡ out_to was.bus
    → Holding (Some g) is.bus × (g.channel ≡ granted_to was.bus)
taken g was is s e q =
    let t = gives was.bus e q in
    (still_held (Some g) (took_bus was.bus) is.bus (bus_of was is (with_bus (took_bus was.bus)) s) t.0, t.1)
  where
    gives : (b : Bus) → 0 ≡ take_number b → g.channel ≡ out_to b → Holding (Some g) (took_bus b) × (g.channel ≡ granted_to b)
    gives Home e q = absurd (omega arith)
    gives (Out c) e q = (q, q)
    gives (Taken c) e q = absurd (omega arith)

-- a refused one changes nothing
pub not_taken : (g : Option Grant) (was is : Controller) (e : BusRefusal) → Becomes was is (with_bus (took_bus was.bus)) → bus_number e ≡ take_number was.bus → Holding g was.bus
    → Holding g is.bus × (0 ≡ granted_to was.bus)
not_taken g was is e s n h =
    let t = leaves was.bus (refusal_shows e) n h in
    (still_held g (took_bus was.bus) is.bus (bus_of was is (with_bus (took_bus was.bus)) s) t.0, t.1)
  where
    leaves : (b : Bus) → 0 < bus_number e → bus_number e ≡ take_number b → Holding g b → Holding g (took_bus b) × (0 ≡ granted_to b)
    leaves Home p n h = (h, refl)
    leaves (Out c) p n h = absurd (omega arith)
    leaves (Taken c) p n h = (h, refl)
