use mathlib.Core.Path.{refl, ◌∙◌}
use borrow.Author.Tests.{tests}
use Rattle.std.proofs.Common.{rules}
use Rattle.std.proofs.lemmas.Iterator.{YieldsList-from_slice}
use Rattle.std.proofs.lemmas.Iterator.Search.{all_from_yields_List}
use Rattle.stores.proofs.Words.{all-list}
use Rattle.rules.specs.Sound.{at_most}
use Rattle.numbers.specs.Seats.{in_use}
use Rattle.numbers.proofs.at_most.Goals as goal

pub returns : goal.returns
returns c =
    all_from_yields_List (at_most c.args.limit) _ _ _ c.all.ensures.ran (YieldsList-from_slice (in_use c.args.v) cc) (λ x b q k. search (rules, tests))
    ∙ all-list _ _ (λ x. refl) _
