-- Notices: what a step has to tell besides its answer.
use Rattle.std.specs.Prelude.{ℕ, ◌-◌, ◌++◌, Bool, true, false, List, codes, length, replicate, Some, None, Ok, Err, Option, Result}
use Rattle.std.specs.Fmt.{decimal, digits}
use Rattle.registers.specs.declared.list.Signal.{Signal}
use Rattle.registers.specs.declared.list.Signal.TheVariants.{Eop, Irq13}
use Rattle.controller.specs.declared.event.Event.{Event}
use Rattle.controller.specs.declared.event.Event.TheVariants.{Idle, Away, Lent, Fetched, Moved}
use Rattle.controller.specs.declared.fault.Fault.{Fault}
use Rattle.registers.specs.Names.{signal_words}
use Rattle.controller.specs.Faults.{cause_number, cause_words}
use Rattle.runner.specs.declared.notice.Notice.{Notice}
use Rattle.runner.specs.declared.notice.Notice.TheVariants as notice

-- a blank notice, which no step gives: EOP of channel 4, which carries nothing
abbrev pub blank_notice : Notice
blank_notice = notice.Signal 4 Eop

-- a notice by its numbers, as a script's answer shows it
pub record NoticeNumbers : Type 0 where
  pub channel : ℕ
  pub cause : ℕ
  pub address : ℕ

-- a notice's numbers by their parts
abbrev pub numbers_at : ℕ → ℕ → ℕ → NoticeNumbers
numbers_at channel cause address = record { channel = channel; cause = cause; address = address }

-- where there is no notice, its numbers are zero
abbrev pub no_numbers : NoticeNumbers
no_numbers = numbers_at 0 0 0

-- the cause of a signal: 101 EOP, 102 IRQ13
abbrev pub signal_cause : Signal → ℕ
signal_cause Eop = 101
signal_cause Irq13 = 102

-- a signal has its channel and address 0, a fault its number, channel and address
abbrev pub numbers_of : Notice → NoticeNumbers
numbers_of (notice.Signal c s) = numbers_at c (signal_cause s) 0
numbers_of (notice.Fault f) = numbers_at f.channel (cause_number f.cause) f.address

-- an address in eight hexadecimal digits: zeros in front of its own
abbrev pub address_words : ℕ → List ℕ
address_words a = replicate (8 - length (digits 16 true a)) 48 ++ digits 16 true a

-- a notice in words
abbrev pub notice_words : Notice → List ℕ
notice_words (notice.Signal c s) = codes "channel " ++ (decimal c ++ (codes " signalled " ++ signal_words s))
notice_words (notice.Fault f) = codes "channel " ++ (decimal f.channel ++ (codes " faulted at " ++ (address_words f.address
    ++ (codes "h, " ++ (decimal (cause_number f.cause) ++ (codes ": " ++ cause_words f.cause))))))

-- a signal is noticed with its channel
abbrev pub signalled : ℕ → Option Signal → Option Notice
signalled c None = None
signalled c (Some s) = Some (notice.Signal c s)

-- what a step gives notice of: the signal of its transfer, or its fault
abbrev pub notice_of : Result Event Fault → Option Notice
notice_of (Ok Idle) = None
notice_of (Ok Away) = None
notice_of (Ok (Lent c)) = None
notice_of (Ok (Fetched c a)) = None
notice_of (Ok (Moved c a u s)) = signalled c s
notice_of (Err f) = Some (notice.Fault f)

-- whether a step was a transfer
abbrev pub is_transfer : Result Event Fault → Bool
is_transfer (Ok Idle) = false
is_transfer (Ok Away) = false
is_transfer (Ok (Lent c)) = false
is_transfer (Ok (Fetched c a)) = false
is_transfer (Ok (Moved c a u s)) = true
is_transfer (Err f) = false
