-- A command of the code, played.
use Rattle.std.proofs.Common.{◌≡◌, sym, subst}
use Rattle.controller.specs.Outside.{Does}
use Rattle.script.specs.declared.command.Command.{Command}
use Rattle.script.specs.Commands.{order_of}
use Rattle.runner.specs.Told.{Told}
use Rattle.runner.specs.Plays.{Run, played}

-- a command of the code is played as what it says
pub plays : {command same : Command} (r : Run) {t : Run} {a : Told} → command ≡ same → Does (played (order_of same) r) t a → Does (played (order_of command) r) t a
plays {command} {same} r {t} {a} e does =
    let P : Command → Type 0 = λ x. Does (played (order_of x) r) t a in
    subst P (sym e) does
