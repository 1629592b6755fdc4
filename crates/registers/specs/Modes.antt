-- The mode register: bits 7:6 service, 5 decrement, 4 autoinitialise, 3:2 transfer.
use Rattle.std.specs.Prelude.{ℕ, ◌/◌, ◌%◌, Bool, true, false, cond, ◌==◌}
use Rattle.registers.specs.declared.mode.Mode.{Mode}
use Rattle.registers.specs.declared.mode.Service.{Service}
use Rattle.registers.specs.declared.mode.Service.TheVariants.{Demand, Single, Block, Cascade}
use Rattle.registers.specs.declared.mode.Transfer.{Transfer}
use Rattle.registers.specs.declared.mode.Transfer.TheVariants.{Verify, Write, Read}
use Rattle.registers.specs.declared.list.ListCommand.{ListCommand}
use Rattle.registers.specs.declared.list.ListCommand.TheVariants.{Nothing, Start, Stop, Unknown}

-- the bit of v that has this weight
abbrev pub flag : ℕ → ℕ → Bool
flag weight v = v / weight % 2 == 1

-- 0 demand, 1 single, 2 block, 3 cascade
abbrev pub service_of : ℕ → Service
service_of n = cond (n == 0) Demand (cond (n == 1) Single (cond (n == 2) Block Cascade))

-- 0 verify, 1 write (device to memory), 2 read; 3 stands only under cascade, which transfers nothing
abbrev pub transfer_of : ℕ → Transfer
transfer_of n = cond (n == 1) Write (cond (n == 2) Read Verify)

-- the mode of a new channel: every bit 0
abbrev pub rest_mode : Mode
rest_mode = record { service = Demand; decrement = false; autoinitialise = false; transfer = Verify }

-- the mode that a byte asks for
abbrev pub mode_of : ℕ → Mode
mode_of v = record {
  service = service_of (v / 64);
  decrement = flag 32 v;
  autoinitialise = flag 16 v;
  transfer = transfer_of (v / 4 % 4);
}

-- a list command's bits 1:0: 0 nothing, 1 Start, 2 Stop; there is no command 3
abbrev pub command_of : ℕ → ListCommand
command_of v = cond (v % 4 == 1) Start (cond (v % 4 == 2) Stop (cond (v % 4 == 3) Unknown Nothing))

-- whether a service is cascade
abbrev pub is_cascade : Service → Bool
is_cascade Demand = false
is_cascade Single = false
is_cascade Block = false
is_cascade Cascade = true

-- whether a service is block
abbrev pub is_block : Service → Bool
is_block Demand = false
is_block Single = false
is_block Block = true
is_block Cascade = false
