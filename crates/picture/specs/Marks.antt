-- The marks of the example.
use Rattle.std.specs.Prelude.{ℕ}
use Rattle.picture.specs.declared.marks.Mark.{Mark}

-- a mark by its parts
abbrev pub mark_of : ℕ → ℕ → ℕ → Mark
mark_of channel cause address = record { channel = channel; cause = cause; address = address }

-- a blank mark is zero throughout
abbrev pub blank_mark : Mark
blank_mark = mark_of 0 0 0
