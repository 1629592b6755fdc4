-- The host finds what the theorem says.
use Rattle.std.proofs.Common.{[], ◌∷◌, refl}
use Rattle.runner.proofs.Examples.{worked_scripts, filled}
use Rattle.runner.proofs.worked.worked_scripts.Goals as goal

pub returns : goal.returns
returns c = record {
  theorem = worked_scripts;
  played = (filled (0x82 ∷ 0x00 ∷ 0x0F ∷ []) c.sillmint_run.ensures.answers worked_scripts.masked refl, filled (0x81 ∷ 0x01 ∷ []) c.sillmint_run-2.ensures.answers worked_scripts.no_port refl);
}
