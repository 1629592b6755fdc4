-- Inspection: a channel's current address and count, as a driver would read them, with the byte pointer left as it stood.
use Rattle.std.specs.Prelude.{ℕ, cond, not, ◌&&◌, Ok, Err, Result, ◌==◌, nat_lt}
use Rattle.registers.specs.declared.refusal.Refusal.{Refusal}
use Rattle.registers.specs.declared.file.Registers.{Registers}
use Rattle.registers.specs.File.{channel_of}
use Rattle.controller.specs.declared.inspect.Inspection.{Inspection}

-- 2 for channel 4 and above 7
abbrev pub inspect_number : ℕ → ℕ
inspect_number c = cond (nat_lt c 8 && not (c == 4)) 0 2

-- what an answer shows: zeros where it is refused
abbrev pub seen_in : Result Inspection Refusal → Inspection
seen_in (Ok x) = x
seen_in (Err e) = record { address = 0; count = 0 }

-- the current address and count; zeros where there is no such channel
abbrev pub inspected : Registers → ℕ → Inspection
inspected k c = cond (inspect_number c == 0)
    (record { address = (channel_of k c).current.place.address; count = (channel_of k c).current.count })
    (record { address = 0; count = 0 })
