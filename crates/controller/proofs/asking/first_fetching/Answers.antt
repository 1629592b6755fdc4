use Rattle.std.proofs.Common.{rules, ◌∙◌, [], ◌∷◌}
use Rattle.std.proofs.lemmas.Iterator.{YieldsList-from_slice}
use Rattle.std.proofs.lemmas.Iterator.Search.{find_from_yields_List}
use borrow.Author.Tests.{tests}
use Rattle.controller.specs.Asking.{fetches}
use Rattle.controller.proofs.asking.first_fetching.Goals as goal

pub returns : goal.returns
returns c = c.copied.ensures ∙ find_from_yields_List (fetches c.args.registers.now) _ _ _ c.find.ensures.ran
    (YieldsList-from_slice (0 ∷ 1 ∷ 2 ∷ 3 ∷ 5 ∷ 6 ∷ 7 ∷ []) cc) (λ x b q k. search (rules, tests))
