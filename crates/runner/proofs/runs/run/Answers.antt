-- A script is played on a new desk.
use Rattle.std.proofs.Common.{length, ap, ◌∙◌, subst}
use Rattle.script.specs.Faults.{refusal_of}
use Rattle.controller.specs.Outside.{outside_of}
use Rattle.runner.specs.Plays.{Run}
use Rattle.runner.specs.Runs.{run_of, Answered}
use Rattle.runner.proofs.runs.run.Goals as goal

pub returns-clause-answers : goal.returns-clause-answers
returns-clause-answers g c =
    let P : Run → Type 0 = λ r. Answered (run_of c.args.script.now (length c.args.output.now) r) c.args.output.now (refusal_of c.err.result) c.play_script-played.new.done c.play_script-played.new.output in
    subst P (c.new-desk.ensures (outside_of g.M.Memory g.B.PortBank c.args.memory.now c.args.bank.now)) (rw c.err.ensures.value c.play_script-played.ensures.answers)

pub returns-clause-world : goal.returns-clause-world
returns-clause-world g c =
    c.play_script-played.ensures.world
    ∙ ap (λ r. (run_of c.args.script.now (length c.args.output.now) r).run.state.world) (c.new-desk.ensures (outside_of g.M.Memory g.B.PortBank c.args.memory.now c.args.bank.now))
