-- What is left of a list's plan: the current entry, the reserve, and the entries not yet fetched.
use Rattle.std.proofs.Common.{◌≡◌, ℕ, suc, ◌-◌, Bool, true, false, cond, ◌||◌, eqb, List, [], ◌∷◌, ◌++◌, is_some, Some, None, Option, refl, ap, ◌∙◌}
use Rattle.bus.specs.declared.place.Course.{Course}
use Rattle.bus.specs.Plan.{plan}
use Rattle.registers.specs.declared.channel.Channel.{Channel}
use Rattle.registers.specs.declared.channel.Span.{Span}
use Rattle.registers.specs.declared.list.Entry.{Entry as Buffer}
use Rattle.controller.specs.declared.fetching.Fetched.{Fetched as Entry}
use Rattle.controller.specs.Outside.{Outside}
use Rattle.controller.specs.Passing.{course_of, passed, stepped, entry_span, closed}
use Rattle.controller.specs.Fetching.{most_entries}
use Rattle.runs.specs.Words.{entries_from, entry_addresses}
use Rattle.runs.specs.Law.{addresses_of}
use Rattle.runs.proofs.Parts.{Part, part_of}

-- the course of a list's entries
abbrev pub list_course : Part → Course
list_course p = record { addressing = p.addressing; extended = true; decrement = p.mode.decrement }

abbrev pub buffer_plan : Course → Buffer → List ℕ
buffer_plan l e = plan l (entry_span e).place (suc e.count)

-- the addresses of a row of entries
abbrev pub along : Course → List Entry → List ℕ
along l [] = []
along l (e ∷ es) = buffer_plan l e.entry ++ along l es

pub along_is : (ch : Channel) (es : List Entry) → addresses_of ch es ≡ along (list_course (part_of ch)) es
along_is ch [] = refl
along_is ch (e ∷ es) = ap (λ r. entry_addresses ch e ++ r) (along_is ch es)

abbrev pub current_plan : Course → Part → List ℕ
current_plan l p = cond p.loaded (plan l p.current.place (suc p.current.count)) []

abbrev pub reserve_plan : Course → Option Buffer → List ℕ
reserve_plan l None = []
reserve_plan l (Some e) = buffer_plan l e

abbrev pub loaded_plan : Course → Part → List ℕ
loaded_plan l p = current_plan l p ++ reserve_plan l p.reserve

-- the entries that are still to be fetched: none once the list is closed
abbrev pub is_closed : Part → Bool
is_closed p = p.ended || p.stopped

abbrev pub unfetched : Part → Outside → List Entry
unfetched p o = cond (is_closed p) [] (entries_from (most_entries - p.entries) o p.next)

-- what stays true of a list's registers while it is active
pub record Running (l : Course) (p : Part) : Type 0 where
  pub active : p.active ≡ true
  pub course : list_course p ≡ l
  pub extended : p.loaded ≡ true → p.extended ≡ true
  pub kept : p.loaded ≡ false → p.reserve ≡ None
  pub open_list : p.loaded ≡ false → is_closed p ≡ false

-- the channel's own course is the list's once an entry is loaded
pub own_course : (l : Course) (ch : Channel) → Running l (part_of ch) → ch.list.loaded ≡ true → course_of ch ≡ l
own_course l ch r h = ap (λ b. record { addressing = ch.addressing; extended = b; decrement = ch.mode.decrement }) (r.extended h) ∙ r.course

-- the registers after a transfer
abbrev pub part_with : Span → Part → Part
part_with x p = record p { current = x }

abbrev pub part_holding : Span → Bool → Bool → Part → Part
part_holding x e b p = record p { current = x; extended = e; loaded = b; reserve = None }

pub part_mid : (ch : Channel) → eqb ch.current.count 0 ≡ false → part_of (passed ch).channel ≡ part_with (stepped ch) (part_of ch)
part_mid ch z = rw z

pub part_next : (ch : Channel) (e : Buffer) → eqb ch.current.count 0 ≡ true → ch.list.active ≡ true → ch.list.reserve ≡ Some e
    → part_of (passed ch).channel ≡ part_holding (entry_span e) true true (part_of ch)
part_next ch e z a r = rw (z, a, r)

pub part_empty : (ch : Channel) → eqb ch.current.count 0 ≡ true → ch.list.active ≡ true → ch.list.reserve ≡ None → closed ch.list ≡ false
    → part_of (passed ch).channel ≡ part_holding (stepped ch) ch.extended false (part_of ch)
part_empty ch z a r q = rw (z, a, r, q)

pub signal_mid : (ch : Channel) → eqb ch.current.count 0 ≡ false → is_some (passed ch).signal ≡ false
signal_mid ch z = rw z

pub signal_next : (ch : Channel) (e : Buffer) → eqb ch.current.count 0 ≡ true → ch.list.active ≡ true → ch.list.reserve ≡ Some e → is_some (passed ch).signal ≡ false
signal_next ch e z a r = rw (z, a, r)

pub signal_empty : (ch : Channel) (q : Bool) → eqb ch.current.count 0 ≡ true → ch.list.active ≡ true → ch.list.reserve ≡ None → closed ch.list ≡ q → is_some (passed ch).signal ≡ q
signal_empty ch true z a r q = rw (z, a, r, q)
signal_empty ch false z a r q = rw (z, a, r, q)
