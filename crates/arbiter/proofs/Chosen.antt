-- The laws of a choice among four slots, over any predicate that says which ask.
use Rattle.std.proofs.Common.{◌≡◌, ℕ, ◌+◌, ◌-◌, ◌%◌, ◌<◌, ◌≤◌, Bool, true, false, ◌≢◌, Some, None, Option, refl, ap, ◌∙◌, ⊎_elim, arith}
use Rattle.std.proofs.lemmas.Bool.{both_ways, cases_lt}
use Rattle.arbiter.specs.Slots.{chosen_slot, start_of}
use Rattle.arbiter.specs.Waiting.{gap, Asking, NotLower, Nearer, Chosen}
use Rattle.arbiter.proofs.Search.{First, first, first_same, first_none}

-- at most three slots stand before one
pub gap_bound : (c last : ℕ) → gap c last ≤ 3
gap_bound c last = omega arith

start_small : (rotating : Bool) (last : ℕ) → start_of rotating last < 4
start_small true last = omega arith
start_small false last = omega arith

-- g and j places from the one after last on
steps_left : (c d last g j : ℕ) → c < 4 → last < 4 → j < 4 → g ≡ gap c last → d ≡ (last + 1 + j) % 4 → j ≤ g → c ≢ d → gap c d + 1 ≤ g
steps_left c d last g j h l k e f m n =
    let a : c ≡ (last + 1 + g) % 4 = omega arith in
    let b : j < g = omega arith in
    let q : (c + 3 - d) % 4 ≡ g - j - 1 = omega arith in
    omega arith

module _ (ask : ℕ → Bool) where
  -- each slot is met once on the way round
  nobody : (k : ℕ) → k < 4 → First ask k 4 None → (c : ℕ) → c < 4 → ask c ≡ false
  nobody k h f c l = let e : c ≡ (k + (c + 4 - k) % 4) % 4 = omega arith in ap ask e ∙ f ((c + 4 - k) % 4) (omega arith)

  -- a slot that asks is not among those before the first that does
  not_before : (k j : ℕ) → k < 4 → ((i : ℕ) → i < j → ask ((k + i) % 4) ≡ false) → (c : ℕ) → c < 4 → ask c ≡ true → j ≤ (c + 4 - k) % 4
  not_before k j h f c l a =
      ⊎_elim
      (λ (i : (c + 4 - k) % 4 < j). let e : c ≡ (k + (c + 4 - k) % 4) % 4 = omega arith in absurd (both_ways (ask c) (ap ask e ∙ f ((c + 4 - k) % 4) i) a))
      (λ i. i) (cases_lt ((c + 4 - k) % 4) j)

  asking_first : (k : ℕ) → k < 4 → (o : Option ℕ) → First ask k 4 o → Asking ask o
  asking_first k h None f = nobody k h f
  asking_first k h (Some d) f = (omega (arith, f.2), f.3)

  lowest_first : (o : Option ℕ) → First ask 0 4 o → (c : ℕ) → c < 4 → ask c ≡ true → NotLower c o
  lowest_first None f c l a = both_ways (ask c) (nobody 0 (omega arith) f c l) a
  lowest_first (Some d) f c l a = omega (arith, f.1, f.2, not_before 0 f.0 (omega arith) f.4 c l a)

  nearer_first : (last : ℕ) → last < 4 → (o : Option ℕ) → First ask ((last + 1) % 4) 4 o → (c : ℕ) → c < 4 → ask c ≡ true → Nearer c last o
  nearer_first last h None f c l a = both_ways (ask c) (nobody ((last + 1) % 4) (omega arith) f c l) a
  nearer_first last h (Some d) f c l a = λ n.
      let b = not_before ((last + 1) % 4) f.0 (omega arith) f.4 c l a in
      let g : (c + 4 - (last + 1) % 4) % 4 ≡ gap c last = omega arith in
      let e : ((last + 1) % 4 + f.0) % 4 ≡ (last + 1 + f.0) % 4 = omega arith in
      steps_left c d last (gap c last) f.0 l h f.1 refl (f.2 ∙ e) (rw g at b) n

  -- the laws of the chosen slot
  pub chosen : (rotating : Bool) (last : ℕ) (o : Option ℕ) → o ≡ chosen_slot ask rotating last → Chosen ask rotating last o
  chosen rotating last o e =
      record {
        value = e;
        asks = rw e (asking_first (start_of rotating last) (start_small rotating last) (chosen_slot ask rotating last) (first ask 4 (start_of rotating last)));
        lowest = λ f. rw (e, f) (lowest_first (chosen_slot ask false last) (first ask 4 0));
        waits = λ t h. rw (e, t) (nearer_first last h (chosen_slot ask true last) (first ask 4 ((last + 1) % 4)));
      }

  -- nobody is chosen if nobody asks
  pub chosen_none : (rotating : Bool) (last : ℕ) → ((c : ℕ) → c < 4 → ask c ≡ false) → chosen_slot ask rotating last ≡ None
  chosen_none rotating last h = first_none ask h 4 (start_of rotating last)

-- the choice looks at the four slots alone
pub chosen_same : (f g : ℕ → Bool) → ((k : ℕ) → k < 4 → f k ≡ g k) → (rotating : Bool) (last : ℕ) → chosen_slot f rotating last ≡ chosen_slot g rotating last
chosen_same f g h rotating last = first_same f g h 4 (start_of rotating last)
