-- Every job of every channel, from making on and from each beginning.
use Rattle.std.proofs.Common.{◌≡◌, ℕ, ◌-◌, ◌*◌, ◌%◌, ◌<◌, Bool, true, false, cond, ◌||◌, ltb, List, [], ◌∷◌, ◌++◌, length, get_or, Some, None, Option, sym, refl, ap, ◌∙◌, subst, ap₂, arith}
use Rattle.std.proofs.lemmas.Bool.{true≢false as never}
use Rattle.bus.specs.declared.place.Course.{Course}
use Rattle.registers.specs.declared.channel.Channel.{Channel}
use Rattle.registers.specs.Channels.{blank}
use Rattle.registers.specs.File.{channel_of, fresh_file}
use Rattle.arbiter.proofs.Masks.{below_four}
use Rattle.controller.specs.Outside.{Outside}
use Rattle.controller.specs.Fetching.{most_entries}
use Rattle.controller.specs.Steps.{State, fresh}
use Rattle.runs.specs.declared.calls.Call.{Call}
use Rattle.runs.specs.Calls.{Turn, run, ended, performed}
use Rattle.runs.specs.Words.{Move, move_of, begins_job, entries_from, entries_at, ends_by_eol, table_of, places}
use Rattle.runs.specs.Law.{NoneBegins, ListJob, Job, Planned, Untouched, cut, cut_after, closed_by}
use Rattle.runs.proofs.Runs.{turn_of, kept}
use Rattle.runs.proofs.Parts.{part_of}
use Rattle.runs.proofs.Sound.{Sound, sound_kept}
use Rattle.runs.proofs.Lists.{list_course, along, along_is, loaded_plan, is_closed, unfetched, Running}
use Rattle.runs.proofs.Plain.{plain_job}
use Rattle.runs.proofs.ListJobs.{closing, table_left, list_row, along_by}
use Rattle.runs.proofs.Started.{Fresh, begun_fresh}

-- a run that is cut before one of its turns
pub record Cut (s : State) (past : List Turn) (t : Turn) (rest : List Turn) : Type 0 where
  pub calls : List Call
  pub call : Call
  pub others : List Call
  pub before : past ≡ run s calls
  pub here : t ≡ turn_of (ended s calls) call
  pub after : rest ≡ run (performed (ended s calls) call).0 others

pub cut-run : (s : State) (ks : List Call) (past : List Turn) (t : Turn) (rest : List Turn) → run s ks ≡ past ++ (t ∷ rest) → Cut s past t rest
cut-run s [] [] t rest e = let n : ◌≡◌ {A = ℕ} 0 1 = cc in absurd (omega arith)
cut-run s [] (p ∷ past) t rest e = let n : ◌≡◌ {A = ℕ} 0 1 = cc in absurd (omega arith)
cut-run s (k ∷ ks) [] t rest e = record { calls = []; call = k; others = ks; before = refl; here = cc; after = cc }
cut-run s (k ∷ ks) (p ∷ past) t rest e =
    let head : p ≡ turn_of s k = cc in
    let tail : run (performed s k).0 ks ≡ past ++ (t ∷ rest) = cc in
    let c = cut-run (performed s k).0 ks past t rest tail in
    record { calls = k ∷ c.calls; call = c.call; others = c.others; before = ap₂ ◌∷◌ head c.before; here = c.here; after = c.after }

module _ (c : ℕ) (hc : c < 8) where
  -- what a list just started has left is its whole table
  started : (ch : Channel) (o : Outside) → ch.list.active ≡ true → Fresh ch → Running (list_course (part_of ch)) (part_of ch)
  started ch o a f = record {
    active = a;
    course = refl;
    extended = λ h. absurd (never (sym h ∙ f.unloaded));
    kept = λ _. f.unreserved;
    open_list = λ _. ap₂ ◌||◌ f.unended f.unstopped;
  }

  whole : (ch : Channel) (o : Outside) → Fresh ch → unfetched (part_of ch) o ≡ entries_at o ch.list.pointer
  whole ch o f =
      let q : is_closed (part_of ch) ≡ false = ap₂ ◌||◌ f.unended f.unstopped in
      ap (λ b. cond b [] (entries_from (most_entries - ch.list.entries) o ch.list.next)) q
      ∙ ap₂ (λ n a. entries_from (most_entries - n) o a) f.uncounted f.placed

  nothing_loaded : (l : Course) (ch : Channel) → Fresh ch → loaded_plan l (part_of ch) ≡ []
  nothing_loaded l ch f = rw (f.unloaded, f.unreserved)

  closes_by : (ch : Channel) (o : Outside) (r : Option ℕ) → Fresh ch → closing (part_of ch) o r ≡ closed_by r (entries_at o ch.list.pointer)
  closes_by ch o None f = ap₂ (λ b es. b || ends_by_eol es) (ap₂ ◌||◌ f.unended f.unstopped) (whole ch o f)
  closes_by ch o (Some n) f = refl

  list_job : (s : State) (ks : List Call) (k : Call) (m : Move) → Sound s.registers → ((channel_of s.registers c).list.active ≡ true → Fresh (channel_of s.registers c))
      → NoneBegins c (run s ks) → move_of c (turn_of (ended s ks) k) ≡ Some m → ListJob c s (run s ks) m
  list_job s ks k m h begun b e on spared =
      let ch = channel_of s.registers c in
      let o = s.world in
      let l = list_course (part_of ch) in
      let f = begun on in
      let all = whole ch o f in
      let r = cut_after c (run s ks) in
      let U : List ℕ → Type 0 = λ ys. Untouched ys (run s ks) in
      let table : table_of ch.list.pointer (entries_at o ch.list.pointer) ≡ table_left (part_of ch) o =
      ap₂ (λ es a. places (8 * length es) a) (sym all) (sym f.placed) in
      along_by _ _ _ _ _ _ m
      (ap₂ ◌++◌ (nothing_loaded l ch f) (ap (λ es. along l (cut r es)) all) ∙ sym (along_is ch (cut r (entries_at o ch.list.pointer))))
      (closes_by ch o r f)
      refl
      (list_row c hc l s ks k m h (started ch o on f) b (subst U table spared) e)

  job : (s : State) (ks : List Call) (k : Call) (m : Move) → Sound s.registers → ((channel_of s.registers c).list.active ≡ true → Fresh (channel_of s.registers c))
      → NoneBegins c (run s ks) → move_of c (turn_of (ended s ks) k) ≡ Some m → Job c s (run s ks) m
  job s ks k m h f b e = (plain_job c hc s ks k m h b e, list_job s ks k m h f b e)

  -- a job, where the run is told by its turns
  by_turns : (s : State) (row : List Turn) (t : Turn) (rest : List Turn) (m : Move) → Cut s row t rest → Sound s.registers
      → ((channel_of s.registers c).list.active ≡ true → Fresh (channel_of s.registers c)) → NoneBegins c row → move_of c t ≡ Some m → Job c s row m
  by_turns s row t rest m x h f b e =
      let N : List Turn → Type 0 = λ r. NoneBegins c r in
      let J : List Turn → Type 0 = λ r. Job c s r m in
      subst J (sym x.before) (job s x.calls x.call m h f (subst N x.before b) (sym (ap (move_of c) x.here) ∙ e))

  off_at_first : (o : Outside) → (channel_of (fresh o).registers c).list.active ≡ true → Fresh (channel_of (fresh o).registers c)
  off_at_first o h = absurd (never (sym h ∙ off (ltb c 4) refl))
    where
      off : (q : Bool) → ltb c 4 ≡ q → (channel_of (fresh o).registers c).list.active ≡ false
      off true q = rw q (below_four (λ j. (get_or fresh_file.first.channels j blank).list.active ≡ false) refl refl refl refl (c % 4) (omega arith))
      off false q = rw q (below_four (λ j. (get_or fresh_file.second.channels j blank).list.active ≡ false) refl refl refl refl (c % 4) (omega arith))

sound_first : (o : Outside) → Sound (fresh o).registers
sound_first o = ((refl, refl), tt)

pub planned : (o : Outside) (ks : List Call) → Planned (fresh o) (run (fresh o) ks)
planned o ks = record {
  made = λ c row rest t m hc e b mv. by_turns c hc (fresh o) row t rest m (cut-run (fresh o) ks row t rest e) (sound_first o) (off_at_first c hc o) b mv;
  begun = λ c past row rest x t m hc e bx b mv. (
      let u = cut-run (fresh o) ks past x (row ++ (t ∷ rest)) e in
      let s = ended (fresh o) u.calls in
      let h = kept (λ (z : State). Sound z.registers) sound_kept (fresh o) u.calls (sound_first o) in
      let s' = (performed s u.call).0 in
      let v = cut-run s' u.others row t rest (sym u.after) in
      let B : Turn → Type 0 = λ z. begins_job c z ≡ true in
      let J : Turn → Type 0 = λ z. Job c z.after row m in
      subst J (sym u.here) (by_turns c hc s' row t rest m v (sound_kept s u.call h) (begun_fresh c hc s u.call h (subst B u.here bx)) b mv));
}
