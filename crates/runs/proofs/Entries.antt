-- What a transfer, a fetch, a Stop and a write elsewhere leave of a list's plan.
use Rattle.std.proofs.Common.{◌≡◌, ℕ, zero, suc, ◌+◌, ◌-◌, ◌%◌, ◌<◌, Bool, true, false, cond, not, ◌&&◌, ◌||◌, eqb, leb, List, [], ◌∷◌, ◌++◌, length, is_some, Some, None, Ok, Err, Option, sym, refl, ap, ◌∙◌, subst, ap₂, inl, inr, append_assoc, append-nil, arith}
use Rattle.std.proofs.Math.Bool.{and-false, or-false}
use Rattle.std.proofs.lemmas.Bool.{true≢false as never, not-true, and_parts, or_parts}
use Rattle.memory.specs.declared.kinds.Kind.{Kind}
use Rattle.bus.specs.declared.place.Course.{Course}
use Rattle.bus.specs.declared.place.Place.{Place}
use Rattle.bus.specs.Address.{moved_place}
use Rattle.bus.specs.Plan.{planned, plan}
use Rattle.bus.proofs.Plans.{plan_next}
use Rattle.registers.specs.declared.channel.Channel.{Channel}
use Rattle.registers.specs.declared.list.List.{List as Chain}
use Rattle.registers.specs.declared.list.Entry.{Entry as Buffer}
use Rattle.registers.specs.Channels.{is_loaded}
use Rattle.controller.specs.declared.fetching.Fetched.{Fetched as Entry}
use Rattle.controller.specs.Outside.{Outside}
use Rattle.controller.specs.Passing.{course_of, passed, stepped, entry_span, closed, less_one}
use Rattle.controller.specs.Faults.{fault_of}
use Rattle.controller.specs.Fetching.{fetch_of, filled, entry_at, most_entries}
use Rattle.runs.specs.Words.{entries_from, ends_by_eol}
use Rattle.runs.proofs.Parts.{Part, part_of}
use Rattle.runs.proofs.Effects.{CanFetch}
use Rattle.runs.proofs.Tables.{fetched_is, entry_in, entries_more, after_entry, Readable}
use Rattle.runs.proofs.Lists.{buffer_plan, along, current_plan, reserve_plan, loaded_plan, is_closed, unfetched, Running, own_course, part_with, part_holding, part_mid, part_next, part_empty, signal_mid, signal_next, signal_empty}

-- what a transfer that does not signal leaves
pub record Went (l : Course) (p p' : Part) : Type 0 where
  pub running : Running l p'
  pub taken : loaded_plan l p ≡ planned l p.current.place 0 ∷ loaded_plan l p'
  pub fetching : (o : Outside) → unfetched p' o ≡ unfetched p o
  pub place : p'.next ≡ p.next
  pub closing : is_closed p' ≡ is_closed p

module _ (l : Course) (ch : Channel) (r : Running l (part_of ch)) (ld : ch.list.loaded ≡ true) where
  now_course : course_of ch ≡ l
  now_course = own_course l ch r ld

  first_of : (n : ℕ) → plan l ch.current.place (suc n) ≡ planned l ch.current.place 0 ∷ plan l (moved_place (course_of ch) ch.current.place) n
  first_of n = plan_next l ch.current.place n ∙ ap (λ c. planned l ch.current.place 0 ∷ plan l (moved_place c ch.current.place) n) (sym now_course)

  went_mid : eqb ch.current.count 0 ≡ false → Went l (part_of ch) (part_with (stepped ch) (part_of ch))
  went_mid z = record {
    running = record { active = r.active; course = r.course; extended = r.extended; kept = r.kept; open_list = r.open_list };
    taken =
        let n : suc (less_one ch.current.count) ≡ ch.current.count = (rw z (grind arith)) in
        let there : current_plan l (part_with (stepped ch) (part_of ch)) ≡ plan l (moved_place (course_of ch) ch.current.place) (suc (less_one ch.current.count)) = rw ld in
        let here : current_plan l (part_of ch) ≡ plan l ch.current.place (suc ch.current.count) = rw ld in
        ap (λ x. x ++ reserve_plan l ch.list.reserve) (here ∙ first_of ch.current.count
        ∙ ap (λ x. planned l ch.current.place 0 ∷ x) (sym (there ∙ ap (plan l (moved_place (course_of ch) ch.current.place)) n)));
    fetching = λ o. refl;
    place = refl;
    closing = refl;
  }

  zero_count : eqb ch.current.count 0 ≡ true → current_plan l (part_of ch) ≡ planned l ch.current.place 0 ∷ []
  zero_count z =
      let n : ch.current.count ≡ 0 = grind arith in
      let here : current_plan l (part_of ch) ≡ plan l ch.current.place (suc ch.current.count) = rw ld in
      here ∙ ap (λ x. plan l ch.current.place (suc x)) n

  went_next : (e : Buffer) → eqb ch.current.count 0 ≡ true → ch.list.reserve ≡ Some e → Went l (part_of ch) (part_holding (entry_span e) true true (part_of ch))
  went_next e z re = record {
    running = record { active = r.active; course = r.course; extended = λ _. refl; kept = λ _. refl; open_list = λ q. absurd (never q) };
    taken = ap₂ ◌++◌ (zero_count z) (ap (reserve_plan l) re) ∙ ap (λ x. planned l ch.current.place 0 ∷ x) (sym (append-nil (buffer_plan l e)));
    fetching = λ o. refl;
    place = refl;
    closing = refl;
  }

  went_empty : eqb ch.current.count 0 ≡ true → ch.list.reserve ≡ None → closed ch.list ≡ false → Went l (part_of ch) (part_holding (stepped ch) ch.extended false (part_of ch))
  went_empty z re q = record {
    running = record { active = r.active; course = r.course; extended = λ h. absurd (never (sym h)); kept = λ _. refl; open_list = λ _. q };
    taken = ap₂ ◌++◌ (zero_count z) (ap (reserve_plan l) re);
    fetching = λ o. refl;
    place = refl;
    closing = refl;
  }

  as_part : (p : Part) → part_of (passed ch).channel ≡ p → Went l (part_of ch) p → Went l (part_of ch) (part_of (passed ch).channel)
  as_part p e w = let P : Part → Type 0 = λ x. Went l (part_of ch) x in subst P (sym e) w

  went_by : (z : Bool) (o : Option Buffer) (q : Bool) → eqb ch.current.count 0 ≡ z → ch.list.reserve ≡ o → closed ch.list ≡ q → is_some (passed ch).signal ≡ false
      → Went l (part_of ch) (part_of (passed ch).channel)
  went_by false o q z re cl s = as_part _ (part_mid ch z) (went_mid z)
  went_by true (Some e) q z re cl s = as_part _ (part_next ch e z r.active re) (went_next e z re)
  went_by true None true z re cl s = absurd (never (sym (signal_empty ch true z r.active re cl) ∙ s))
  went_by true None false z re cl s = as_part _ (part_empty ch z r.active re cl) (went_empty z re cl)

  pub went : is_some (passed ch).signal ≡ false → Went l (part_of ch) (part_of (passed ch).channel)
  went s = went_by _ _ _ refl refl refl s

-- a list is over exactly with the last address of a closed plan
abbrev pub ending : Part → Outside → Bool
ending p o = is_closed p || ends_by_eol (unfetched p o)

first_long : (l : Course) (p : Place) (n : ℕ) (rest : List ℕ) → eqb 0 (length (plan l p (suc n) ++ rest)) ≡ false
first_long l p n rest = grind arith

-- what is left behind the first address
abbrev pub behind : Course → Channel → Outside → List ℕ
behind l ch o = (plan l (moved_place l ch.current.place) ch.current.count ++ reserve_plan l ch.list.reserve) ++ along l (unfetched (part_of ch) o)

open_end : (l : Course) (es : List Entry) → false ≡ (ends_by_eol es && eqb 0 (length (along l es)))
open_end l [] = refl
open_end l (e ∷ es) = sym (ap (λ b. ends_by_eol (e ∷ es) && b) (longer e.entry) ∙ and-false (ends_by_eol (e ∷ es)))
  where
    longer : (b : Buffer) → eqb 0 (length (buffer_plan l b ++ along l es)) ≡ false
    longer b = first_long l (entry_span b).place b.count (along l es)

module _ (l : Course) (ch : Channel) (o : Outside) (r : Running l (part_of ch)) where
  ends_by : (z : Bool) (e : Option Buffer) (q : Bool) → eqb ch.current.count 0 ≡ z → ch.list.reserve ≡ e → closed ch.list ≡ q
      → is_some (passed ch).signal ≡ (ending (part_of ch) o && eqb 0 (length (behind l ch o)))
  ends_by false e q z re cl =
      let some : (n : ℕ) → eqb n 0 ≡ false → eqb 0 (length ((plan l (moved_place l ch.current.place) n ++ reserve_plan l ch.list.reserve) ++ along l (unfetched (part_of ch) o))) ≡ false = far in
      signal_mid ch z ∙ sym (ap (λ b. ending (part_of ch) o && b) (some ch.current.count z) ∙ and-false (ending (part_of ch) o))
    where
      far : (n : ℕ) → eqb n 0 ≡ false → eqb 0 (length ((plan l (moved_place l ch.current.place) n ++ reserve_plan l ch.list.reserve) ++ along l (unfetched (part_of ch) o))) ≡ false
      far zero h = absurd (never h)
      far (suc n) h =
          ap (λ x. eqb 0 (length x)) (append_assoc (plan l (moved_place l ch.current.place) (suc n)) (reserve_plan l ch.list.reserve) (along l (unfetched (part_of ch) o)))
          ∙ first_long l (moved_place l ch.current.place) n (reserve_plan l ch.list.reserve ++ along l (unfetched (part_of ch) o))
  ends_by true (Some e) q z re cl =
      let n : ch.current.count ≡ 0 = grind arith in
      let more : eqb 0 (length (behind l ch o)) ≡ false = rw (n, re) (first_long l (entry_span e).place e.count (along l (unfetched (part_of ch) o))) in
      signal_next ch e z r.active re ∙ sym (ap (λ b. ending (part_of ch) o && b) more ∙ and-false (ending (part_of ch) o))
  ends_by true None true z re cl =
      let n : ch.current.count ≡ 0 = grind arith in
      signal_empty ch true z r.active re cl ∙ rw (n, re, cl)
  ends_by true None false z re cl =
      let n : ch.current.count ≡ 0 = grind arith in
      signal_empty ch false z r.active re cl ∙ rw (n, re, cl) (open_end l (entries_from (most_entries - ch.list.entries) o ch.list.next))

  pub ends : is_some (passed ch).signal ≡ (ending (part_of ch) o && eqb 0 (length (behind l ch o)))
  ends = ends_by _ _ _ refl refl refl

-- what a fetch leaves
pub record Got (l : Course) (p p' : Part) (x : Entry) (o : Outside) : Type 0 where
  pub running : Running l p'
  pub loaded : loaded_plan l p' ≡ loaded_plan l p ++ buffer_plan l x.entry
  pub fetched : unfetched p o ≡ x ∷ unfetched p' o
  pub place : p'.next ≡ after_entry p.next
  pub opened : is_closed p ≡ false
  pub closing : is_closed p' ≡ x.last

abbrev part_fetched : Entry → Part → Part
part_fetched x p = record p { loaded = true; reserve = Some x.entry; ended = x.last; entries = (p.entries + 1) % 65536; next = x.next }

abbrev part_loaded : Entry → Part → Part
part_loaded x p = record p { current = entry_span x.entry; extended = true; loaded = true; ended = x.last; entries = (p.entries + 1) % 65536; next = x.next }

part_fetched_lem : (x : Entry) (ch : Channel) → ch.list.loaded ≡ true → part_of (filled x ch) ≡ part_fetched x (part_of ch)
part_fetched_lem x ch h = rw h

part_loaded_lem : (x : Entry) (ch : Channel) → ch.list.loaded ≡ false → part_of (filled x ch) ≡ part_loaded x (part_of ch)
part_loaded_lem x ch h = rw h

-- a fetch that came through: fewer than the most entries, and the eight bytes at the next place
came : (k : ℕ → Kind) (f : ℕ → ℕ) (c : ℕ) (li : Chain) (x : Entry) (q : Bool) → leb most_entries li.entries ≡ q → cond q (Err (fault_of 42 c 0)) (entry_at k f c li.next) ≡ Ok x
    → (li.entries < 4096) × Readable k li.next × (x ≡ entry_in f li.next)
came k f c li x true q e = let n : ◌≡◌ {A = ℕ} 0 1 = cc in absurd (omega arith)
came k f c li x false q e = let r = fetched_is k f c li.next x e in (grind arith, r.0, r.1)

rest_of : (b : Bool) (x : Entry) (es : List Entry) → cond b (x ∷ []) (x ∷ es) ≡ x ∷ cond b [] es
rest_of true x es = refl
rest_of false x es = refl

no_reserve : (e : Option Buffer) → is_loaded e ≡ false → e ≡ None
no_reserve None h = refl
no_reserve (Some x) h = absurd (never h)

module _ (l : Course) (ch : Channel) (o : Outside) (c : ℕ) (x : Entry) (r : Running l (part_of ch))
    (e : fetch_of o.kinds o.bytes c ch.list ≡ Ok x) where
  facts : (ch.list.entries < 4096) × Readable o.kinds ch.list.next × (x ≡ entry_in o.bytes ch.list.next)
  facts = came o.kinds o.bytes c ch.list x (leb most_entries ch.list.entries) refl e

  -- where the list is open, the entry fetched is the first of those that were not yet
  first_unfetched : is_closed (part_of ch) ≡ false → (p : Part) → p.entries ≡ (ch.list.entries + 1) % 65536 → p.next ≡ x.next → p.ended ≡ x.last → p.stopped ≡ ch.list.stopped
      → unfetched (part_of ch) o ≡ x ∷ unfetched p o
  first_unfetched q p en nx ed st =
      let f = facts in
      let less = f.0 in
      let n : most_entries - ch.list.entries ≡ suc (most_entries - ((ch.list.entries + 1) % 65536)) = omega arith in
      let halted : ch.list.stopped ≡ false = (or_parts ch.list.ended ch.list.stopped q).1 in
      let shut : is_closed p ≡ x.last = ap₂ ◌||◌ ed (st ∙ halted) ∙ or-false x.last in
      let here : unfetched (part_of ch) o ≡ entries_from (most_entries - ch.list.entries) o ch.list.next = rw q in
      let there : unfetched p o ≡ cond x.last [] (entries_from (most_entries - ((ch.list.entries + 1) % 65536)) o x.next) =
      ap (λ b. cond b [] (entries_from (most_entries - p.entries) o p.next)) shut ∙ ap₂ (λ i a. cond x.last [] (entries_from (most_entries - i) o a)) en nx in
      let step = entries_more (most_entries - ((ch.list.entries + 1) % 65536)) o ch.list.next f.1 in
      let mine : cond (entry_in o.bytes ch.list.next).last (entry_in o.bytes ch.list.next ∷ []) (entry_in o.bytes ch.list.next ∷ entries_from (most_entries - ((ch.list.entries + 1) % 65536)) o (after_entry ch.list.next))
      ≡ cond x.last (x ∷ []) (x ∷ entries_from (most_entries - ((ch.list.entries + 1) % 65536)) o x.next) =
      ap (λ (y : Entry). cond y.last (y ∷ []) (y ∷ entries_from (most_entries - ((ch.list.entries + 1) % 65536)) o y.next)) (sym f.2) in
      here ∙ ap (λ i. entries_from i o ch.list.next) n ∙ step ∙ mine ∙ rest_of x.last x _ ∙ ap (λ es. x ∷ es) (sym there)

  got_reserve : ch.list.loaded ≡ true → ch.list.reserve ≡ None → is_closed (part_of ch) ≡ false → Got l (part_of ch) (part_fetched x (part_of ch)) x o
  got_reserve ld re q = record {
    running = record { active = r.active; course = r.course; extended = λ _. r.extended ld; kept = λ h. absurd (never h); open_list = λ h. absurd (never h) };
    loaded =
        let here : loaded_plan l (part_of ch) ≡ plan l ch.current.place (suc ch.current.count) = rw (ld, re) (append-nil (plan l ch.current.place (suc ch.current.count))) in
        ap (λ y. y ++ buffer_plan l x.entry) (sym here);
    fetched = first_unfetched q (part_fetched x (part_of ch)) refl refl refl refl;
    place = ap (λ (y : Entry). y.next) facts.2;
    opened = q;
    closing = ap (λ b. x.last || b) (or_parts ch.list.ended ch.list.stopped q).1 ∙ or-false x.last;
  }

  got_current : ch.list.loaded ≡ false → Got l (part_of ch) (part_loaded x (part_of ch)) x o
  got_current ld =
      let re = r.kept ld in
      let q = r.open_list ld in
      record {
        running = record { active = r.active; course = r.course; extended = λ _. refl; kept = λ h. absurd (never h); open_list = λ h. absurd (never h) };
        loaded =
            let here : loaded_plan l (part_of ch) ≡ [] = rw (ld, re) in
            let there : loaded_plan l (part_loaded x (part_of ch)) ≡ buffer_plan l x.entry = rw re (append-nil (buffer_plan l x.entry)) in
            there ∙ ap (λ y. y ++ buffer_plan l x.entry) (sym here);
        fetched = first_unfetched q (part_loaded x (part_of ch)) refl refl refl refl;
        place = ap (λ (y : Entry). y.next) facts.2;
        opened = q;
        closing = ap (λ b. x.last || b) (or_parts ch.list.ended ch.list.stopped q).1 ∙ or-false x.last;
      }

  filled_as : (p : Part) → part_of (filled x ch) ≡ p → Got l (part_of ch) p x o → Got l (part_of ch) (part_of (filled x ch)) x o
  filled_as p h g = let P : Part → Type 0 = λ y. Got l (part_of ch) y x o in subst P (sym h) g

  got_by : (b : Bool) → ch.list.loaded ≡ b → CanFetch ch → Got l (part_of ch) (part_of (filled x ch)) x o
  got_by false ld can = filled_as _ (part_loaded_lem x ch ld) (got_current ld)
  got_by true ld (a, inl off) = absurd (never (sym ld ∙ off))
  got_by true ld (a, inr on) =
      let room : is_loaded ch.list.reserve ≡ false = (let h : not (ch.list.loaded && is_loaded ch.list.reserve) ≡ true = on.1 in let g : not (is_loaded ch.list.reserve) ≡ true = rw ld at h in not-true _ g) in
      let q : is_closed (part_of ch) ≡ false = not-true _ (and_parts ch.list.active (not (is_closed (part_of ch))) on.0).1 in
      filled_as _ (part_fetched_lem x ch ld) (got_reserve ld (no_reserve _ room) q)

  pub got : CanFetch ch → Got l (part_of ch) (part_of (filled x ch)) x o
  got can = got_by _ refl can
