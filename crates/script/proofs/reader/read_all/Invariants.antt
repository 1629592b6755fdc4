-- What was read so far, with what is left, is the script; the other places are as they were.
use Rattle.std.proofs.Common.{◌≡◌, map, length, take, drop}
use Rattle.script.specs.Commands.{order_of}
use Rattle.script.specs.Reads.{left}
use Rattle.script.proofs.Rows.{Going}
use Rattle.script.proofs.reader.read_all.Given as goal

abbrev pub invariant-loop-done : goal.invariant-loop-done
invariant-loop-done l =
    record {
      going : Going (length l.initial.commands) l.bytes (map order_of (take l.done l.commands)) (left l.script);
      others : drop l.done l.commands ≡ drop l.done l.initial.commands;
    }
