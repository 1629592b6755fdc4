-- What a driver and a bus master are told: the numbers and values that an answer shows.
use Rattle.std.specs.Prelude.{ℕ, Result}
use Rattle.registers.specs.Refusals.{shown, value_of}
use Rattle.controller.specs.declared.event.Event.{Event}
use Rattle.controller.specs.declared.fault.Fault.{Fault}
use Rattle.controller.specs.Grants.{shown_bus, byte_in}
use Rattle.controller.specs.Inspecting.{seen_in}
use Rattle.runs.specs.declared.calls.Answer.{Answer}
use Rattle.runs.specs.declared.calls.Answer.TheVariants as answer

-- the number of a call's refusal, 0 where it was accepted, and its values, 0 where they do not apply
pub data Told : Type 0 where
  Write : (refusal : ℕ) → Told
  Read : (refusal value : ℕ) → Told
  Lines : (refusal : ℕ) → Told
  Step : (outcome : Result Event Fault) → Told
  Inspect : (refusal address count : ℕ) → Told
  Take : (refusal channel : ℕ) → Told
  Cycle : (refusal byte : ℕ) → Told
  Release : (refusal : ℕ) → Told

-- what an answer of the code says in numbers
abbrev pub told_of : Answer → Told
told_of (answer.Write r) = Write (shown r)
told_of (answer.Read r) = Read (shown r) (value_of r)
told_of (answer.Lines r) = Lines (shown r)
told_of (answer.Step r) = Step r
told_of (answer.Inspect r) = Inspect (shown r) (seen_in r).address (seen_in r).count
told_of (answer.Take r) = Take (shown_bus r) (byte_in r)
told_of (answer.Cycle r) = Cycle (shown_bus r) (byte_in r)
told_of (answer.Release r) = Release (shown_bus r)
