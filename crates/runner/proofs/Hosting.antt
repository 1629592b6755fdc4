-- The run that a host calls, over a block of its bytes.
use Rattle.std.proofs.Common.{◌≡◌, ℕ, true, List, length, sym, ap, ◌∙◌}
use Rattle.std.proofs.lemmas.Bool.{cond-true}
use Rattle.memory.specs.Blocks.{fits_at, list_from}
use Rattle.controller.specs.Outside.{Outside}
use Rattle.runner.specs.Plays.{opened}
use Rattle.runner.specs.Runs.{Ran, run_of}
use Rattle.runner.specs.Hosts.{host_world, host_bytes}

-- what the block shows after the run is what the host finds
pub host_shows : {after : List ℕ} (script bytes : List ℕ) (n : ℕ) (before o : Outside) → fits_at 0 (length bytes) ≡ true → before ≡ host_world bytes
    → o ≡ (run_of script n (opened 64 before)).run.state.world → after ≡ list_from o.bytes 0 (length bytes) → after ≡ host_bytes script bytes n
host_shows script bytes n before o fits starts world back =
    let found = world ∙ ap (λ w. (run_of script n (opened 64 w)).run.state.world) starts ∙ ap (λ (p : Ran). p.run.state.world) (sym (cond-true _ _ _ fits)) in
    back ∙ ap (λ w. list_from w.bytes 0 (length bytes)) found ∙ sym (cond-true _ _ _ fits)
