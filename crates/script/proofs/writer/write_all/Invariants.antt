-- The commands before this one are written, and what lies past them is as it was.
use Rattle.std.proofs.Common.{map}
use Rattle.script.specs.Commands.{order_of}
use Rattle.script.proofs.Filling.{Filling}
use Rattle.script.proofs.writer.write_all.Given as goal

abbrev pub invariant-loop-command : goal.invariant-loop-command
invariant-loop-command l = Filling l.initial.out (map order_of l.commands) l.command-index l.done l.out
