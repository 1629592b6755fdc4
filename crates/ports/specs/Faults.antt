-- The numbers and words of a port bank's refusals.
use Rattle.std.specs.Prelude.{ℕ, cond, List, codes, ◌==◌}
use Rattle.ports.specs.declared.faults.PortFault.{PortFault}
use Rattle.ports.specs.declared.faults.PortFault.TheVariants.{NothingWaits, NoPlace, NoSuchChannel}
use Rattle.tape.specs.declared.lines.TapeFault.{TapeFault}
use Rattle.tape.specs.declared.lines.TapeFault.TheVariants.{Full, Empty}

-- 31: nothing waits; 32: no place is free; 33: there is no such channel
abbrev pub port_number : PortFault → ℕ
port_number NothingWaits = 31
port_number NoPlace = 32
port_number NoSuchChannel = 33

-- a refusal in words
abbrev pub port_words : PortFault → List ℕ
port_words NothingWaits = codes "nothing waits at the device"
port_words NoPlace = codes "the device has no free place"
port_words NoSuchChannel = codes "the bank has no such channel"

-- the refusal with a number
abbrev pub port_refusal : ℕ → PortFault
port_refusal n = cond (n == port_number NothingWaits) NothingWaits (cond (n == port_number NoPlace) NoPlace NoSuchChannel)

-- a full tape has no free place, and at an empty one nothing waits
abbrev pub port_fault_of : TapeFault → PortFault
port_fault_of Full = NoPlace
port_fault_of Empty = NothingWaits
