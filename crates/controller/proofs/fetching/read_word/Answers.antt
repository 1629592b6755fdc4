use Rattle.std.proofs.Common.{rules, arith, ◌∙◌, sym}
use Rattle.std.proofs.lemmas.Result.{err_from_is_err_and}
use Rattle.controller.proofs.Reading.{reads, stops, whole}
use Rattle.controller.proofs.fetching.read_word.Goals as goal

pub loop-byte-init : goal.loop-byte-init
loop-byte-init g c = search rules

pub returns-in_err-byte : goal.returns-in_err-byte
returns-in_err-byte g c =
    let p = err_from_is_err_and c.from_residual.result c.from_residual.ensures.1 in
    rw (p.1, p.2) (sym (stops _ _ c.args.channel _ _ _ _ _ c.loop-byte-test.true c.loop-byte.invariant (sym c.read_byte.ensures ∙ c.in_err-byte.was)))

pub loop-byte-preserved : goal.loop-byte-preserved
loop-byte-preserved g c = reads _ _ c.args.channel _ _ _ _ _ c.loop-byte-test.true c.loop-byte.invariant (search rules)

pub returns : goal.returns
returns g c = whole _ _ c.args.channel c.args.start _ _ _ _ (omega arith) c.loop-byte.invariant c.from_le_bytes.ensures
