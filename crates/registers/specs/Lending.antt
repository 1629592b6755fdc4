-- What a group that is lent leaves in the register file.
use Rattle.std.specs.Borrow.{Lends, MutBor, Fml}
use Rattle.registers.specs.declared.group.Group.{Group}
use Rattle.registers.specs.declared.file.Registers.{Registers}
use Rattle.registers.specs.declared.ports.Dma.{Dma}
use Rattle.registers.specs.contracts.file.Registers.{the_row}
use Rattle.registers.specs.contracts.group.Group as group
use Rattle.registers.specs.File.{at_dma}

-- the registers end with that group as the last value behind r
abbrev pub LendsGroup : MutBor Registers → Dma → MutBor Group → Fml
LendsGroup k d r = Lends the_row group.the_row k r (λ g. at_dma d (λ _. g) k.now)
