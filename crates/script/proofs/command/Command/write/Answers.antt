-- PUT reads back from its address and its eight bytes.
use Rattle.std.proofs.Common.{rules}
use Rattle.script.specs.Commands.{Put}
use Rattle.script.proofs.Reading.{command_reads_back}
use Rattle.script.proofs.command.Command.write.Goals as goal

pub returns-in-Put-clause-reads_back : goal.returns-in-Put-clause-reads_back
returns-in-Put-clause-reads_back c = λ s. rw c.in-Put.is (command_reads_back (Put c.in-Put.address c.in-Put.bytes.now) (search rules, c.put_bytes.ensures.eight) s)
