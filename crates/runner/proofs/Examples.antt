-- The worked scripts.
use Rattle.std.proofs.Common.{◌≡◌, ℕ, List, ◌++◌, length, refl, ap, ◌∙◌, arith}
use Rattle.std.proofs.lemmas.List.{append-nil, drop_all}
use Rattle.script.specs.Reads.{read_into}
use Rattle.runner.specs.Runs.{Ran, play_all, Answered}
use Rattle.runner.specs.Worked.{WorkedScripts}

pub worked_scripts : WorkedScripts
unfolding read_into play_all
worked_scripts = record { masked = refl; no_port = refl }

-- answers that fill the output are all that it has
pub filled : {p : Ran} {block : List ℕ} {number size : ℕ} {after : List ℕ} (bytes : List ℕ) → Answered p block number size after → p.answers ≡ bytes → length bytes ≡ length block → after ≡ bytes
filled {p} {block} {number} {size} bytes found answers whole =
    let e : length p.answers ≡ length bytes = ap length answers in
    let none = drop_all size block (omega (arith, found.sized)) in
    found.output ∙ (λ i. answers i ++ none i) ∙ append-nil bytes
