-- Each turn plays one command more.
use Rattle.std.proofs.Common.{◌≡◌, Err, ap, ◌∙◌, rules}
use Rattle.std.specs.Result.{result_err}
use Rattle.script.specs.Faults.{number_of, refusal_of}
use Rattle.runner.proofs.Running.{comes_command, comes_refused, running_more, running_full, running_end, running_refused}
use Rattle.runner.proofs.desk.Desk.play_script.Goals as goal

pub loop-command-preserved : goal.loop-command-preserved
loop-command-preserved g c =
    let came = comes_command _ _ c.in-Some.ensures.steps c.in_ok-command.was in (
      running_more c.loop-command.invariant.0 came.0 came.1 came.2 c.in_ok-done.ensures.does,
      c.in_ok-done.ensures.stays ∙ c.loop-command.invariant.1,
    )

pub returns-in_err-done : goal.returns-in_err-done
returns-in_err-done g c =
    let came = comes_command _ _ c.in-Some.ensures.steps c.in_ok-command.was in
    let number : refusal_of (result_err c.from_residual-in_err-done.result) ≡ number_of c.in_err-done.field-0.0 = search rules in
    let found = running_full c.loop-command.invariant.0 came.0 came.1 came.2 number c.in_err-done.ensures.does in
    record { answers = found.0; world = found.1; stays = c.in_err-done.ensures.stays ∙ c.loop-command.invariant.1 }

pub returns-in_err-command : goal.returns-in_err-command
returns-in_err-command g c =
    let came = comes_refused _ _ c.in-Some.ensures.steps c.in_err-command.was in
    let number : refusal_of (result_err c.from_residual.result) ≡ number_of c.in_err-command.field-0.0 = search rules in
    let found = running_refused c.loop-command.invariant.0 (ap Err number ∙ came.0) in
    record { answers = found.0; world = found.1; stays = c.loop-command.invariant.1 }

pub returns : goal.returns
returns g c =
    let found = running_end c.loop-command.invariant.0 c.in-None.ensures.steps.0 in
    record { answers = found.0; world = found.1; stays = c.loop-command.invariant.1 }
