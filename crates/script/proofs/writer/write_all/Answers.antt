-- Each turn writes one command more.
use Rattle.std.proofs.Common.{map, get_or, rules}
use Rattle.std.proofs.lemmas.List.{length-map}
use Rattle.script.specs.declared.command.Command.TheVariants.{Out}
use Rattle.script.specs.Commands.{order_of}
use Rattle.script.specs.Faults.{number_of}
use Rattle.script.proofs.Filling.{filling_more, filling_full, written_some, written_all}
use Rattle.script.proofs.Places.{row_here, row_front}
use Rattle.script.proofs.writer.write_all.Goals as goal

pub loop-command-preserved : goal.loop-command-preserved
loop-command-preserved c =
    let commands = c.args.commands.now in
    let i = c.loop-command.command-index in
    filling_more c.args.out.now (map order_of commands) i c.loop-command.done c.loop-command.out c.loop-command.invariant
    (order_of (get_or commands i (Out 0 0))) (row_here commands i (Out 0 0) (search rules)) (row_front commands i (Out 0 0) (search rules))
    c.write.new.out c.write.ensures.block c.in-Ok.size c.in-Ok.ensures.answer c.write.ensures.reads_back

pub returns-in-Err : goal.returns-in-Err
returns-in-Err c =
    let commands = c.args.commands.now in
    let i = c.loop-command.command-index in
    let full =
    filling_full c.args.out.now (map order_of commands) i c.loop-command.done c.loop-command.out c.loop-command.invariant
    (order_of (get_or commands i (Out 0 0))) (row_here commands i (Out 0 0) (search rules)) (row_front commands i (Out 0 0) (search rules))
    c.write.new.out c.write.ensures.block (number_of c.in-Err.refusal) c.in-Err.ensures.answer
    in
    written_some _ _ i _ _ full.1 c.in-Err.refusal full.2 (simp length-map (search rules)) full.0

pub returns : goal.returns
returns c = written_all _ (map order_of c.args.commands.now) c.loop-command.command-index _ _ c.loop-command.invariant (simp length-map (search rules))
