-- The least of the eight kinds.
use Rattle.std.proofs.Common.{rules, ◌≡◌, ◌∙◌, refl}
use Rattle.std.specs.List.{range_with_len}
use Rattle.std.proofs.lemmas.Fn.{fold_over}
use Rattle.std.proofs.iter.Yields.{nat_range_steps, Range-gives}
use Rattle.memory.proofs.Eight.{least_of, least_of_more, least_of_eight}
use Rattle.memory.proofs.puts.least_kind.Goals as goal

pub returns : goal.returns
returns g c =
    let k = g.N.Memory.kind_at c.args.memory.now in
    let folded : c.fold.result ≡ least_of k c.args.address (range_with_len 0 8) = fold_over nat_range_steps (λ x. x) _ (λ offsets least. least ≡ least_of k c.args.address offsets) _
    (λ offsets least offset next f' is called. search (rules, least_of_more, is, called)) _ (range_with_len 0 8) _ _ (Range-gives (record { start = 0; end = 8 })) refl c.fold.ensures.ran in
    folded ∙ search (rules, least_of_eight)
