-- One element more.
use Rattle.std.proofs.Common.{◌<◌, length, ◌∙◌, arith}
use Rattle.std.proofs.lemmas.Bool.Decides.{nat_tests}
use Rattle.tape.specs.Tapes.{room, contents, cells_of}
use Rattle.tape.proofs.Held.{length_contents, contents_pushed}
use Rattle.tape.proofs.lines.Tape.push.Goals as goal

pub returns-clause-contents : goal.returns-clause-contents
unfolding room contents
returns-clause-contents g c =
    let t = c.args.self.now in
    let held = length_contents t in
    let free : t.count < length (cells_of t) = grind (arith, nat_tests) in
    contents_pushed t _ c.args.x free c.place-end.ensures.value ∙ grind (arith, nat_tests)
