-- What looking, taking and giving answer and leave.
use Rattle.std.specs.Prelude.{ℕ, ◌-◌, Bool, cond, not, ◌&&◌, List, Ok, Err, Result, ◌==◌, nat_lt}
use Rattle.memory.specs.Stored.{stored}
use Rattle.tape.specs.Lines.{first_or, rest_of}
use Rattle.tape.specs.Tapes.{pushed}
use Rattle.ports.specs.declared.faults.PortFault.{PortFault}
use Rattle.ports.specs.Faults.{port_refusal}

-- the channels are 0 to 7 without 4
abbrev pub is_channel : ℕ → Bool
is_channel c = nat_lt c 8 && not (c == 4)

-- a channel is accepted, anything else gets 33
abbrev pub channel_of : ℕ → Result (Unit {0}) PortFault
channel_of c = cond (is_channel c) (Ok tt) (Err (port_refusal 33))

-- looking and taking answer the first unit of the channel, 31 if none waits, 33 before that if there is no such channel
abbrev pub look_of : ℕ → (ℕ → List ℕ) → Result ℕ PortFault
look_of c waiting = cond (is_channel c) (first_or (port_refusal 31) (waiting c)) (Err (port_refusal 33))

-- what waits after taking
abbrev pub taken : ℕ → (ℕ → List ℕ) → ℕ → List ℕ
taken c waiting = cond (is_channel c) (stored waiting c (rest_of (waiting c))) waiting

-- giving is accepted if the channel has a free place, else it gets 32, and 33 before that if there is no such channel
abbrev pub give_of : ℕ → (ℕ → ℕ) → Result (Unit {0}) PortFault
give_of c free = cond (is_channel c) (cond (nat_lt 0 (free c)) (Ok tt) (Err (port_refusal 32))) (Err (port_refusal 33))

-- what is kept after giving a unit: one more, if a place was free
abbrev pub added : ℕ → ℕ → (ℕ → ℕ) → (ℕ → List ℕ) → ℕ → List ℕ
added c unit free kept = cond (is_channel c) (stored kept c (pushed (free c) (kept c) unit)) kept

-- the places free after giving: one fewer, if there was one
abbrev pub used : ℕ → (ℕ → ℕ) → ℕ → ℕ
used c free = cond (is_channel c) (stored free c (free c - 1)) free
