-- What one transfer, or one cycle of a grant, exchanges between the devices and memory.
use Rattle.std.proofs.Common.{◌≡◌, ℕ, ◌+◌, Bool, true, false, cond, eqb, ltb, List, [], ◌∷◌, ◌++◌, length, Ok, Err, Result, sym, refl, append-nil, arith}
use Rattle.bus.specs.declared.place.Addressing.{Addressing}
use Rattle.bus.specs.declared.place.Addressing.TheVariants.{Bytes, Words}
use Rattle.memory.specs.declared.kinds.Kind.{Kind}
use Rattle.memory.specs.declared.kinds.Kind.TheVariants.{Absent, ReadOnly, Writable}
use Rattle.memory.specs.Bytes.{written}
use Rattle.ports.specs.declared.faults.PortFault.{PortFault}
use Rattle.ports.specs.Units.{is_channel, look_of, taken, give_of, added, used}
use Rattle.registers.specs.declared.mode.Transfer.{Transfer}
use Rattle.registers.specs.declared.mode.Transfer.TheVariants.{Verify, Write, Read}
use Rattle.controller.specs.declared.fault.Fault.{Fault}
use Rattle.controller.specs.declared.grant.Cycle.{Cycle}
use Rattle.controller.specs.declared.grant.Cycle.TheVariants as cycle
use Rattle.controller.specs.Faults.{at_port, fault_of}
use Rattle.controller.specs.Outside.{Outside}
use Rattle.controller.specs.Carrying.{and_then, fitting, with_unit, offered, wanted, stored_unit, take_in, give_out, carried}
use Rattle.controller.specs.Grants.{kind_number, cycle_address, cycled}
use Rattle.runs.specs.Words.{in_by, out_by, bytes_at, stored_when, stored_by_cycle}
use Rattle.runs.specs.Law.{last_stored}

-- p is o after each device gave some units and got others, and some bytes were stored
pub record Exchanged (o : Outside) (ins outs : ℕ → List ℕ) (ws : List (ℕ × ℕ)) (p : Outside) : Type 0 where
  pub waited : (c : ℕ) → o.waiting c ≡ ins c ++ p.waiting c
  pub kept : (c : ℕ) → p.kept c ≡ o.kept c ++ outs c
  pub places : (c : ℕ) → p.free c + length (outs c) ≡ o.free c
  pub bytes : (x : ℕ) → p.bytes x ≡ last_stored x (o.bytes x) ws
  pub kinds : p.kinds ≡ o.kinds

-- the same units and bytes in other words
pub same : (o p : Outside) (ins outs these those : ℕ → List ℕ) (ws vs : List (ℕ × ℕ)) → Exchanged o ins outs ws p
    → ((c : ℕ) → these c ≡ ins c) → ((c : ℕ) → those c ≡ outs c) → vs ≡ ws → Exchanged o these those vs p
same o p ins outs these those ws vs x i j w = record {
  waited = λ c. rw (i c) (x.waited c);
  kept = λ c. rw (j c) (x.kept c);
  places = λ c. rw (j c) (x.places c);
  bytes = λ a. rw w (x.bytes a);
  kinds = x.kinds;
}

-- nothing goes anywhere
abbrev pub no_units : ℕ → List ℕ
no_units c = []

pub nothing : (o : Outside) → Exchanged o no_units no_units [] o
nothing o = record {
  waited = λ c. refl;
  kept = λ c. sym (append-nil (o.kept c));
  places = λ c. omega arith;
  bytes = λ x. refl;
  kinds = refl;
}

-- the units of one channel
abbrev pub only : ℕ → List ℕ → ℕ → List ℕ
only c us d = cond (eqb d c) us []

both : (q : Bool) → ◌≡◌ {A = List ℕ} (cond q [] []) []
both true = refl
both false = refl

-- a check that comes first
after_check : (r : Result (Unit {0}) Fault) (t : Result ℕ Fault) (u : ℕ) → and_then r t ≡ Ok u → t ≡ Ok u
after_check (Ok x) t u e = e
after_check (Err f) t u e = cc

-- the unit that is offered is the one that the device shows
narrow : (v u : ℕ) (f : Fault) (q : Bool) → cond q (Ok v) (Err f) ≡ Ok u → ◌≡◌ {A = Result ℕ PortFault} (Ok v) (Ok u)
narrow v u f true e = cc
narrow v u f false e = cc

fits : (c : ℕ) (m : Addressing) (a u : ℕ) (r : Result ℕ PortFault) → fitting c m a (at_port c a r) ≡ Ok u → r ≡ Ok u
fits c Bytes a u (Ok v) e = narrow v u (fault_of 34 c a) (ltb v 256) e
fits c Words a u (Ok v) e = cc
fits c m a u (Err f) e = cc

-- it is the first that waits, and is taken from its channel, and from no other
taken-one : (w : ℕ → List ℕ) (c u d : ℕ) (q : Bool) (l : List ℕ) → is_channel c ≡ q → w c ≡ l → look_of c w ≡ Ok u
    → w d ≡ only c (u ∷ []) d ++ taken c w d
taken-one w c u d true [] q e x = let z = rw (q, e) at x in cc
taken-one w c u d true (v ∷ l) q e x = let z = rw (q, e) at x in rw (q, e) (grind arith)
taken-one w c u d false l q e x = let z = rw q at x in cc

stored_bytes_lem : (m : Addressing) (f : ℕ → ℕ) (a u x : ℕ) → stored_unit m f a u x ≡ last_stored x (f x) (bytes_at m a u)
stored_bytes_lem Bytes f a u x = refl
stored_bytes_lem Words f a u x = refl

takes : (o : Outside) (c : ℕ) (m : Addressing) (a u : ℕ) → offered o c m a ≡ Ok u
    → Exchanged o (only c (u ∷ [])) no_units (bytes_at m a u) (take_in o c m a (Ok u)).0
takes o c m a u e = let z = nothing o in record {
  waited = λ d. taken-one o.waiting c u d (is_channel c) (o.waiting c) refl refl (fits c m a u (look_of c o.waiting) (after_check _ _ u e));
  kept = z.kept;
  places = z.places;
  bytes = λ x. stored_bytes_lem m o.bytes a u x;
  kinds = refl;
}

-- a unit goes out only to a channel with a free place
has_place_lem : (q p : Bool) (f g : PortFault) → ◌≡◌ {A = Result (Unit {0}) PortFault} (cond q (cond p (Ok tt) (Err f)) (Err g)) (Ok tt) → (q ≡ true) × (p ≡ true)
has_place_lem true true f g e = (refl, refl)
has_place_lem true false f g e = (refl, cc)
has_place_lem false p f g e = (cc, cc)

given : (c a v u : ℕ) (r : Result (Unit {0}) PortFault) → with_unit v (at_port c a r) ≡ Ok u → r ≡ Ok tt
given c a v u (Ok x) e = refl
given c a v u (Err f) e = cc

-- it goes behind what its channel keeps
added-one : (k : ℕ → List ℕ) (f : ℕ → ℕ) (c u d : ℕ) → is_channel c ≡ true → ltb 0 (f c) ≡ true → added c u f k d ≡ k d ++ only c (u ∷ []) d
added-one k f c u d q p = simp (q, p) (grind (arith, append-nil))

-- and uses one of its places
used-one : (f : ℕ → ℕ) (c u d : ℕ) → is_channel c ≡ true → ltb 0 (f c) ≡ true → used c f d + length (only c (u ∷ []) d) ≡ f d
used-one f c u d q p = rw q (grind arith)

gives : (o : Outside) (c : ℕ) (m : Addressing) (a u : ℕ) → wanted o c m a ≡ Ok u
    → Exchanged o no_units (only c (u ∷ [])) [] (give_out o c (Ok u)).0
gives o c m a u e =
    let l = given c a _ u (give_of c o.free) (after_check _ _ u e) in
    let b = has_place_lem (is_channel c) (ltb 0 (o.free c)) _ _ l in
    record {
      waited = λ d. refl;
      kept = λ d. added-one o.kept o.free c u d b.0 b.1;
      places = λ d. used-one o.free c u d b.0 b.1;
      bytes = λ x. refl;
      kinds = refl;
    }

-- what comes through exchanges one unit by its way; a fault leaves everything
abbrev pub Came : Transfer → Outside → ℕ → Addressing → ℕ → Outside × Result ℕ Fault → Type 0
Came w o c m a (p, Ok u) = Exchanged o (only c (in_by w u)) (only c (out_by w u)) (stored_when w m a u) p
Came w o c m a (p, Err f) = p ≡ o

came_in : (o : Outside) (c : ℕ) (m : Addressing) (a : ℕ) (r : Result ℕ Fault) → offered o c m a ≡ r → Came Write o c m a (take_in o c m a r)
came_in o c m a (Ok u) e = same o _ _ _ _ _ _ _ (takes o c m a u e) (λ d. refl) (λ d. both (eqb d c)) refl
came_in o c m a (Err f) e = refl

went_out : (o : Outside) (c : ℕ) (m : Addressing) (a : ℕ) (r : Result ℕ Fault) → wanted o c m a ≡ r → Came Read o c m a (give_out o c r)
went_out o c m a (Ok u) e = same o _ _ _ _ _ _ _ (gives o c m a u e) (λ d. both (eqb d c)) (λ d. refl) refl
went_out o c m a (Err f) e = refl

pub came : (w : Transfer) (o : Outside) (c : ℕ) (m : Addressing) (a : ℕ) → Came w o c m a (carried w o c m a)
came Verify o c m a = same o o _ _ _ _ _ _ (nothing o) (λ d. both (eqb d c)) (λ d. both (eqb d c)) refl
came Write o c m a = came_in o c m a (offered o c m a) refl
came Read o c m a = went_out o c m a (wanted o c m a) refl

-- an accepted write cycle stores its byte, any other cycle nothing
written_byte : (k : Kind) (f : ℕ → ℕ) (a b x : ℕ) → written k f a b x ≡ last_stored x (f x) (stored_by_cycle (cycle.Write a b) (kind_number (cycle.Write a b) k))
written_byte Absent f a b x = refl
written_byte ReadOnly f a b x = refl
written_byte Writable f a b x = refl

pub cycle_stores : (x : Cycle) (o : Outside) → Exchanged o no_units no_units (stored_by_cycle x (kind_number x (o.kinds (cycle_address x)))) (cycled x o)
cycle_stores (cycle.Read a) o = nothing o
cycle_stores (cycle.Write a b) o = let z = nothing o in record {
  waited = z.waited;
  kept = z.kept;
  places = z.places;
  bytes = λ x. written_byte (o.kinds a) o.bytes a b x;
  kinds = refl;
}
