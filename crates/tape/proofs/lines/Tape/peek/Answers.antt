-- The first element.
use Rattle.std.proofs.Common.{sym, ap, ◌∙◌, Ok, arith}
use Rattle.tape.specs.Lines.{first_or}
use Rattle.tape.proofs.Held.{contents_popped}
use Rattle.tape.proofs.lines.Tape.peek.Goals as goal

pub returns : goal.returns
returns g c =
    let x = c.index-self-place.result in
    let q = contents_popped c.args.self.now _ x x (omega arith) c.place.ensures.value c.index-self-place.is in
    ap Ok (sym c.index-self-place.is) ∙ sym (ap (first_or _) q)
