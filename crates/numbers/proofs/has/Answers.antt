use mathlib.Core.Path.{◌∙◌}
use Rattle.stores.proofs.Words.{any-list, eqb_flip}
use Rattle.rules.specs.Lists.{has}
use Rattle.numbers.proofs.has.Goals as goal

pub returns : goal.returns
unfolding has
returns c = c.contains.ensures.value ∙ any-list _ _ (λ x. eqb_flip x c.args.n) _
