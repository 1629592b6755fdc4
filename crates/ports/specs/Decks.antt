-- What a bank on tapes holds.
use Rattle.std.specs.Prelude.{ℕ, cond, List, [], ◌==◌}
use Rattle.tape.specs.Tapes.{contents, room}
use Rattle.ports.specs.declared.decks.Deck.{Deck}
use Rattle.ports.specs.declared.tapes.TapeBank.{TapeBank}

-- the units that wait on a deck
abbrev pub deck_waiting : Deck → List ℕ
deck_waiting d = contents d.waiting

-- the units that a deck keeps
abbrev pub deck_kept : Deck → List ℕ
deck_kept d = contents d.kept

-- the places that are free on a deck
abbrev pub deck_free : Deck → ℕ
deck_free d = room d.kept

-- what each channel's deck has; there is none for 4, nor above 7
abbrev pub by_deck : {X : Type 0} → X → (Deck → X) → TapeBank → ℕ → X
by_deck none has b c =
    cond (c == 0) (has b.deck0) (cond (c == 1) (has b.deck1) (cond (c == 2) (has b.deck2) (cond (c == 3) (has b.deck3) (cond (c == 5) (has b.deck5) (cond (c == 6) (has b.deck6) (cond (c == 7) (has b.deck7) none))))))

-- what waits at each channel of a bank on tapes
abbrev pub tape_waiting : TapeBank → ℕ → List ℕ
tape_waiting = by_deck [] deck_waiting

-- what each channel keeps
abbrev pub tape_kept : TapeBank → ℕ → List ℕ
tape_kept = by_deck [] deck_kept

-- the free places of each channel
abbrev pub tape_free : TapeBank → ℕ → ℕ
tape_free = by_deck 0 deck_free
