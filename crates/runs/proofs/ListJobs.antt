-- A list job passes the addresses of its plan, and signals with the last of a closed one, until its table is written to.
use Rattle.std.proofs.Common.{◌≡◌, ℕ, zero, suc, ◌+◌, ◌-◌, ◌*◌, ◌<◌, Bool, true, false, cond, ◌&&◌, ◌||◌, eqb, ◌⊎◌, List, [], ◌∷◌, ◌++◌, length, get_or, take, is_some, Some, None, Option, sym, refl, ap, ◌∙◌, subst, ap₂, inl, inr, append_assoc, zero-add, arith}
use Rattle.std.proofs.Math.Bool.{or-true}
use Rattle.std.proofs.lemmas.Bool.{true≢false as never}
use Rattle.bus.specs.declared.place.Course.{Course}
use Rattle.bus.specs.Plan.{planned, plan}
use Rattle.bus.proofs.Plans.{plan_next}
use Rattle.registers.specs.File.{channel_of}
use Rattle.controller.specs.declared.fetching.Fetched.{Fetched as Entry}
use Rattle.controller.specs.Outside.{Outside}
use Rattle.controller.specs.Passing.{passed}
use Rattle.controller.specs.Carrying.{above}
use Rattle.controller.specs.Fetching.{most_entries, after_word, filled}
use Rattle.controller.specs.Steps.{State}
use Rattle.runs.specs.declared.calls.Call.{Call}
use Rattle.runs.specs.Calls.{Turn, run, ended, performed}
use Rattle.runs.specs.Words.{Move, move_of, fetch_of, stops, begins_job, stored_bytes, entries_from, ends_by_eol, places}
use Rattle.runs.specs.Law.{NoneBegins, transfers, Along, Spared, Untouched, cut, cut_after, more}
use Rattle.runs.proofs.Runs.{turn_of}
use Rattle.runs.proofs.Carry.{carries}
use Rattle.runs.proofs.Parts.{Part, part_of}
use Rattle.runs.proofs.Written.{with_stop}
use Rattle.runs.proofs.Turns.{from, to, Effect, still, closes, moves, fetches_one, effect, move_passes, begins_signals}
use Rattle.runs.proofs.Sound.{Sound, sound_kept}
use Rattle.runs.proofs.Tables.{Agree, spared_agree, spared_tail, same_entries, after_entry, eight_more}
use Rattle.runs.proofs.Lists.{along, buffer_plan, reserve_plan, loaded_plan, is_closed, unfetched, Running, own_course}
use Rattle.runs.proofs.Entries.{went, ending, behind, ends, got}

-- the plan that is left, where a row is to come that stops the list after so many fetches, or does not
abbrev pub left_of : Course → Part → Outside → Option ℕ → List ℕ
left_of l p o r = loaded_plan l p ++ along l (cut r (unfetched p o))

abbrev pub closing : Part → Outside → Option ℕ → Bool
closing p o None = ending p o
closing p o (Some n) = true

-- the bytes of the entries that are left
abbrev pub table_left : Part → Outside → List ℕ
table_left p o = places (8 * length (unfetched p o)) p.next

pub along_by : (a b : List ℕ) (q w : Bool) (i j : ℕ) (m : Move) → a ≡ b → q ≡ w → i ≡ j → Along a q i m → Along b w j m
along_by a b q w i j m e f g h = record {
  within = subst (λ x. j < length x) e (subst (λ x. x < length a) g h.within);
  address = h.address ∙ ap₂ (λ x y. get_or x y 0) e g;
  signals = h.signals ∙ ap₂ ◌&&◌ f (ap₂ (λ x y. eqb (y + 1) (length x)) e g);
}

along_more : (a : ℕ) (xs : List ℕ) (q : Bool) (n : ℕ) (m : Move) → Along xs q n m → Along (a ∷ xs) q (1 + n) m
along_more a xs q n m h =
    let e : 1 + n ≡ suc n = omega arith in
    let w = h.within in
    record {
      within = omega arith;
      address = h.address ∙ ap (λ i. get_or (a ∷ xs) i 0) (sym e);
      signals = h.signals ∙ ap (λ b. q && b) (same n (length xs));
    }
  where
    same : (i k : ℕ) → eqb (i + 1) k ≡ eqb (1 + i + 1) (suc k)
    same i k = grind arith

last_one : (n : ℕ) → eqb 0 n ≡ eqb (0 + 1) (suc n)
last_one n = grind arith

untouched_tail : (y : ℕ) (ys : List ℕ) (h : List Turn) → Untouched (y ∷ ys) h → Untouched ys h
untouched_tail y ys [] u = tt
untouched_tail y ys (t ∷ h) u = (spared_tail y ys (stored_bytes t) u.0, untouched_tail y ys h u.1)

spared_none : (ws : List (ℕ × ℕ)) → Spared [] ws
spared_none [] = tt
spared_none (w ∷ ws) = (tt, spared_none ws)

untouched_none : (h : List Turn) → Untouched [] h
untouched_none [] = tt
untouched_none (t ∷ h) = (spared_none (stored_bytes t), untouched_none h)

-- the table after a word, and after an entry
after_word_lem : (n a : ℕ) (h : List Turn) → Untouched (places (suc (suc (suc (suc n)))) a) h → Untouched (places n (after_word a)) h
after_word_lem n a h u =
    untouched_tail (above (above (above a))) (places n (after_word a)) h
    (untouched_tail (above (above a)) (places (suc n) (above (above (above a)))) h
    (untouched_tail (above a) (places (suc (suc n)) (above (above a))) h
    (untouched_tail a (places (suc (suc (suc n))) (above a)) h u)))

after_entry_lem : (n a : ℕ) (h : List Turn) → Untouched (places (8 * suc n) a) h → Untouched (places (8 * n) (after_entry a)) h
after_entry_lem n a h u =
    let P : ℕ → Type 0 = λ m. Untouched (places m a) h in
    after_word_lem (8 * n) (after_word a) h (after_word_lem (suc (suc (suc (suc (8 * n))))) a h (subst P (eight_more n) u))

take-zero : (es : List Entry) → take 0 es ≡ []
take-zero [] = refl
take-zero (e ∷ es) = refl

more-zero : (o : Option ℕ) → more 0 o ≡ o
more-zero None = refl
more-zero (Some n) = ap Some (omega arith)

-- a world in which the table stands as it did has the same entries left
unfetched_same : (p : Part) (o w : Outside) → w.kinds ≡ o.kinds → Agree o.bytes w.bytes (table_left p o) → unfetched p w ≡ unfetched p o
unfetched_same p o w k a = go (is_closed p) refl
  where
    go : (q : Bool) → is_closed p ≡ q → unfetched p w ≡ unfetched p o
    go true q = rw q
    go false q = rw q (same_entries (most_entries - p.entries) o w p.next k (let P : Bool → Type 0 = λ b. Agree o.bytes w.bytes (places (8 * length (cond b [] (entries_from (most_entries - p.entries) o p.next))) p.next) in subst P q a))

closing_same : (p : Part) (o w : Outside) (r : Option ℕ) → unfetched p w ≡ unfetched p o → closing p w r ≡ closing p o r
closing_same p o w None e = ap (λ es. is_closed p || ends_by_eol es) e
closing_same p o w (Some n) e = refl

closing_alike : (p q : Part) (w o : Outside) (r : Option ℕ) → is_closed p ≡ is_closed q → unfetched p w ≡ unfetched q o → closing p w r ≡ closing q o r
closing_alike p q w o None a e = ap₂ (λ b es. b || ends_by_eol es) a e
closing_alike p q w o (Some n) a e = refl

closed_closing : (p : Part) (o : Outside) (r : Option ℕ) → is_closed p ≡ true → closing p o r ≡ true
closed_closing p o None e = rw e
closed_closing p o (Some n) e = refl

cut_none : (r : Option ℕ) → cut r [] ≡ []
cut_none None = refl
cut_none (Some zero) = refl
cut_none (Some (suc n)) = refl

cut-more : (r : Option ℕ) (x : Entry) (es : List Entry) → cut (more 1 r) (x ∷ es) ≡ x ∷ cut r es
cut-more None x es = refl
cut-more (Some n) x es = ap (λ i. take i (x ∷ es)) (one_more n)
  where
    one_more : (n : ℕ) → 1 + n ≡ suc n
    one_more n = omega arith

closing_more : (p p' : Part) (o : Outside) (x : Entry) (r : Option ℕ) → is_closed p ≡ false → is_closed p' ≡ x.last → unfetched p o ≡ x ∷ unfetched p' o
    → closing p o (more 1 r) ≡ closing p' o r
closing_more p p' o x None a b e = ap₂ (λ q es. q || ends_by_eol es) a e ∙ ap (λ q. q || ends_by_eol (unfetched p' o)) (sym b)
closing_more p p' o x (Some n) a b e = refl

-- a row of a running list, then a transfer
module _ (c : ℕ) (hc : c < 8) (l : Course) where
  abbrev Goes : State → List Turn → Move → Type 0
  Goes s row m = Along (left_of l (part_of (channel_of s.registers c)) s.world (cut_after c row)) (closing (part_of (channel_of s.registers c)) s.world (cut_after c row)) (transfers c row) m

  -- the transfer itself
  here_goes : (s : State) (k : Call) (m : Move) → Sound s.registers → Running l (part_of (channel_of s.registers c)) → move_of c (turn_of s k) ≡ Some m → Goes s [] m
  here_goes s k m h r e =
      let ch = channel_of s.registers c in
      let o = s.world in
      let p = move_passes c hc s k m h e in
      let ld = p.2 r.active in
      let here : loaded_plan l (part_of ch) ≡ plan l ch.current.place (suc ch.current.count) ++ reserve_plan l ch.list.reserve = rw ld in
      let first : left_of l (part_of ch) o None ≡ planned l ch.current.place 0 ∷ behind l ch o =
      ap (λ x. x ++ along l (unfetched (part_of ch) o)) (here ∙ ap (λ x. x ++ reserve_plan l ch.list.reserve) (plan_next l ch.current.place ch.current.count)) in
      along_by (planned l ch.current.place 0 ∷ behind l ch o) _ (ending (part_of ch) o) _ 0 _ m (sym first) refl refl (record {
        within = omega arith;
        address = p.0 ∙ ap (λ x. planned x ch.current.place 0) (own_course l ch r ld);
        signals = ap is_some p.1 ∙ ends l ch o r ∙ ap (λ b. ending (part_of ch) o && b) (last_one (length (behind l ch o)));
      })

  -- the bytes of the table after a turn that spares it
  agreed : (s : State) (k : Call) (ys : List ℕ) → Spared ys (stored_bytes (turn_of s k)) → Agree s.world.bytes (performed s k).0.world.bytes ys
  agreed s k ys h = spared_agree s.world.bytes (performed s k).0.world.bytes (stored_bytes (turn_of s k)) ys (carries s k).bytes h

  -- a turn that neither stops nor fetches leaves the cut
  no_stop : (t : Turn) (r : Option ℕ) → stops c t ≡ false → fetch_of c t ≡ None → cond (stops c t) (Some 0) (more (cond (is_some (fetch_of c t)) 1 0) r) ≡ r
  no_stop t r e f = ap₂ (λ q g. cond q (Some 0) (more (cond (is_some g) 1 0) r)) e f ∙ more-zero r

  -- one turn before a row
  abbrev Rest : State → List Call → Move → Type 0
  Rest s ks m = Running l (part_of (channel_of s.registers c)) → Untouched (table_left (part_of (channel_of s.registers c)) s.world) (run s ks) → Goes s (run s ks) m

  turn_goes : (s : State) (k : Call) (ks : List Call) (m : Move) → Running l (part_of (channel_of s.registers c)) → begins_job c (turn_of s k) ≡ false
      → Untouched (table_left (part_of (channel_of s.registers c)) s.world) (run s (k ∷ ks)) → Effect c (turn_of s k) → Rest (performed s k).0 ks m → Goes s (run s (k ∷ ks)) m
  turn_goes s k ks m r b u (still mv ft st p) rest =
      let t = turn_of s k in
      let P = part_of (from c t) in
      let o = s.world in
      let w = (performed s k).0.world in
      let row = run (performed s k).0 ks in
      let eu = unfetched_same P o w (carries s k).kinds (agreed s k (table_left P o) u.0) in
      let R : Part → Type 0 = λ q. Running l q in
      let U : List ℕ → Type 0 = λ ys. Untouched ys row in
      let table : table_left (part_of (to c t)) w ≡ table_left P o = ap (λ q. table_left q w) p ∙ ap (λ es. places (8 * length es) P.next) eu in
      let cuts = no_stop t (cut_after c row) (on st) ft in
      along_by _ _ _ _ _ _ m
      (ap (λ q. left_of l q w (cut_after c row)) p ∙ ap (λ es. loaded_plan l P ++ along l (cut (cut_after c row) es)) eu ∙ ap (left_of l P o) (sym cuts))
      (ap (λ q. closing q w (cut_after c row)) p ∙ closing_same P o w (cut_after c row) eu ∙ ap (closing P o) (sym cuts))
      (sym (ap (λ q. cond (is_some q) 1 0 + transfers c row) mv ∙ zero-add (transfers c row)))
      (rest (subst R (sym p) r) (subst U (sym table) u.1))
    where
      on : (stops c (turn_of s k) ≡ false) ⊎ ((from c (turn_of s k)).list.active ≡ false) → stops c (turn_of s k) ≡ false
      on (inl e) = e
      on (inr e) = absurd (never (sym r.active ∙ e))
  turn_goes s k ks m r b u (closes mv ft st a ld p) rest =
      let t = turn_of s k in
      let P = part_of (from c t) in
      let o = s.world in
      let w = (performed s k).0.world in
      let row = run (performed s k).0 ks in
      let shut : is_closed (with_stop P) ≡ true = or-true P.ended in
      let none : unfetched (with_stop P) w ≡ [] = rw shut in
      let R : Part → Type 0 = λ q. Running l q in
      let U : List ℕ → Type 0 = λ ys. Untouched ys row in
      let table : table_left (part_of (to c t)) w ≡ [] = ap (λ q. table_left q w) p ∙ ap (λ es. places (8 * length es) P.next) none in
      let cuts : cut_after c (run s (k ∷ ks)) ≡ Some 0 = ap (λ q. cond q (Some 0) (more (cond (is_some (fetch_of c t)) 1 0) (cut_after c row))) st in
      let run_on : Running l (with_stop P) = record { active = r.active; course = r.course; extended = r.extended; kept = r.kept; open_list = λ h. absurd (never (sym ld ∙ h)) } in
      along_by _ _ _ _ _ _ m
      (ap (λ q. left_of l q w (cut_after c row)) p ∙ ap (λ es. loaded_plan l P ++ along l (cut (cut_after c row) es)) none
      ∙ ap (λ es. loaded_plan l P ++ along l es) (cut_none (cut_after c row) ∙ sym (take-zero (unfetched P o))) ∙ ap (left_of l P o) (sym cuts))
      (ap (λ q. closing q w (cut_after c row)) p ∙ closed_closing (with_stop P) w (cut_after c row) shut ∙ ap (closing P o) (sym cuts))
      (sym (ap (λ q. cond (is_some q) 1 0 + transfers c row) mv ∙ zero-add (transfers c row)))
      (rest (subst R (sym p) run_on) (subst U (sym table) (untouched_none row)))
  turn_goes s k ks m r b u (moves j mv ft st ad sg ch rd) rest =
      let t = turn_of s k in
      let P = part_of (from c t) in
      let o = s.world in
      let w = (performed s k).0.world in
      let row = run (performed s k).0 ks in
      let quiet : is_some (passed (from c t)).signal ≡ false = ap is_some (sym sg) ∙ sym (begins_signals c hc s k j mv) ∙ b in
      let left = went l (from c t) r (rd r.active) quiet in
      let p : part_of (to c t) ≡ part_of (passed (from c t)).channel = ap part_of ch in
      let eu : unfetched (part_of (passed (from c t)).channel) w ≡ unfetched P o = left.fetching w ∙ unfetched_same P o w (carries s k).kinds (agreed s k (table_left P o) u.0) in
      let R : Part → Type 0 = λ q. Running l q in
      let U : List ℕ → Type 0 = λ ys. Untouched ys row in
      let table : table_left (part_of (to c t)) w ≡ table_left P o = ap (λ q. table_left q w) p ∙ ap₂ (λ es a. places (8 * length es) a) eu left.place in
      let cuts = no_stop t (cut_after c row) st ft in
      let first = planned l P.current.place 0 in
      along_by (first ∷ left_of l (part_of (to c t)) w (cut_after c row)) _ _ _ _ _ m
      (ap (λ q. first ∷ left_of l q w (cut_after c row)) p
      ∙ ap (λ es. (first ∷ loaded_plan l (part_of (passed (from c t)).channel)) ++ along l (cut (cut_after c row) es)) eu
      ∙ ap (λ x. x ++ along l (cut (cut_after c row) (unfetched P o))) (sym left.taken) ∙ ap (left_of l P o) (sym cuts))
      (ap (λ q. closing q w (cut_after c row)) p ∙ closing_alike (part_of (passed (from c t)).channel) P w o (cut_after c row) left.closing eu ∙ ap (closing P o) (sym cuts))
      (sym (ap (λ q. cond (is_some q) 1 0 + transfers c row) mv))
      (along_more first _ _ _ m (rest (subst R (sym p) left.running) (subst U (sym table) u.1)))
  turn_goes s k ks m r b u (fetches_one x mv ft st e ch can w) rest =
      let t = turn_of s k in
      let P = part_of (from c t) in
      let Q = part_of (filled x (from c t)) in
      let o = s.world in
      let row = run (performed s k).0 ks in
      let new = got l (from c t) o c x r e can in
      let p : part_of (to c t) ≡ Q = ap part_of ch in
      let R : Part → Type 0 = λ q. Running l q in
      let U : List ℕ → Type 0 = λ ys. Untouched ys row in
      let V : List Entry → Type 0 = λ es. Untouched (places (8 * length es) P.next) row in
      let table : table_left (part_of (to c t)) (performed s k).0.world ≡ places (8 * length (unfetched Q o)) (after_entry P.next) =
      ap₂ (λ q z. table_left q z) p w ∙ ap (λ a. places (8 * length (unfetched Q o)) a) new.place in
      let cuts : cut_after c (run s (k ∷ ks)) ≡ more 1 (cut_after c row) =
      ap₂ (λ q f. cond q (Some 0) (more (cond (is_some f) 1 0) (cut_after c row))) st ft in
      along_by _ _ _ _ _ _ m
      (ap₂ (λ q z. left_of l q z (cut_after c row)) p w
      ∙ ap (λ x. x ++ along l (cut (cut_after c row) (unfetched Q o))) new.loaded
      ∙ append_assoc (loaded_plan l P) (buffer_plan l x.entry) (along l (cut (cut_after c row) (unfetched Q o)))
      ∙ ap (λ es. loaded_plan l P ++ along l es) (sym (cut-more (cut_after c row) x (unfetched Q o)) ∙ ap (cut (more 1 (cut_after c row))) (sym new.fetched))
      ∙ ap (left_of l P o) (sym cuts))
      (ap₂ (λ q z. closing q z (cut_after c row)) p w ∙ sym (closing_more P Q o x (cut_after c row) new.opened new.closing new.fetched) ∙ ap (closing P o) (sym cuts))
      (sym (ap (λ q. cond (is_some q) 1 0 + transfers c row) mv ∙ zero-add (transfers c row)))
      (rest (subst R (sym p) new.running) (subst U (sym table) (after_entry_lem (length (unfetched Q o)) P.next row (subst V new.fetched u.1))))

  pub list_row : (s : State) (ks : List Call) (k : Call) (m : Move) → Sound s.registers → Running l (part_of (channel_of s.registers c)) → NoneBegins c (run s ks)
      → Untouched (table_left (part_of (channel_of s.registers c)) s.world) (run s ks) → move_of c (turn_of (ended s ks) k) ≡ Some m → Goes s (run s ks) m
  list_row s [] k m h r b u e = here_goes s k m h r e
  list_row s (j ∷ ks) k m h r b u e =
      turn_goes s j ks m r b.0 u (effect c hc s j h b.0) (λ r' u'. list_row (performed s j).0 ks k m (sound_kept s j h) r' b.1 u' e)
