-- The commands of a script, and the bytes that each is written as.
use Rattle.std.specs.Prelude.{ℕ, ◌/◌, ◌%◌, List, [], ◌∷◌, ◌++◌}
use Rattle.std.specs.List.{flat_map}
use Rattle.script.specs.declared.command.Command.{Command}
use Rattle.script.specs.declared.command.Command.TheVariants as command

-- What a command says: its operands, the bytes of PUT as a list.
pub data Order : Type 0 where
  Out : (port value : ℕ) → Order
  In : (port : ℕ) → Order
  Lines : (bits : ℕ) → Order
  Step : (count : ℕ) → Order
  Put : (address : ℕ) (bytes : List ℕ) → Order
  Next : Order

-- What a command of the code says.
abbrev pub order_of : Command → Order
order_of (command.Out port value) = Out port value
order_of (command.In port) = In port
order_of (command.Lines bits) = Lines bits
order_of (command.Step count) = Step count
order_of (command.Put address bytes) = Put address bytes.now
order_of command.Next = Next

-- A number of two bytes, the lowest first.
abbrev pub two : ℕ → List ℕ
two n = n % 256 ∷ n / 256 % 256 ∷ []

-- A number of four bytes, the lowest first.
abbrev pub four : ℕ → List ℕ
four n = n % 256 ∷ n / 256 % 256 ∷ n / 65536 % 256 ∷ n / 16777216 % 256 ∷ []

-- A command is its own byte, then its operands.
abbrev pub bytes_of : Order → List ℕ
bytes_of (Out port value) = 0x01 ∷ two port ++ value ∷ []
bytes_of (In port) = 0x02 ∷ two port
bytes_of (Lines bits) = 0x03 ∷ bits ∷ []
bytes_of (Step count) = 0x04 ∷ two count
bytes_of (Put address bytes) = 0x05 ∷ four address ++ bytes
bytes_of Next = 0x06 ∷ []

-- A script is the bytes of its commands, one after the other.
abbrev pub script_of : List Order → List ℕ
script_of orders = flat_map bytes_of orders
