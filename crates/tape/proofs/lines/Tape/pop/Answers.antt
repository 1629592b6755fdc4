-- One element fewer.
use Rattle.std.proofs.Common.{◌<◌, sym, ap, arith}
use Rattle.tape.specs.Lines.{rest_of}
use Rattle.tape.specs.Tapes.{contents}
use Rattle.tape.proofs.Held.{tape_steps, contents_popped}
use Rattle.tape.proofs.lines.Tape.pop.Goals as goal

pub returns-clause-contents : goal.returns-clause-contents
unfolding contents
returns-clause-contents g c =
    let t = c.args.self.now in
    let some : 0 < t.count = grind (arith, tape_steps) in
    sym (ap rest_of (contents_popped t _ c.index-self-first.result _ some c.place-first.ensures.value c.index-self-first.is))
