use mathlib.Core.Path.{ap, ◌∙◌}
use Rattle.stores.proofs.Words.{any-list, eqb_flip}
use Rattle.rules.specs.Lists.{has}
use Rattle.link_numbers.proofs.Asked.{run_is}
use Rattle.link_numbers.proofs.has.Goals as goal

pub returns : goal.returns
unfolding has
returns c =
    c.contains.ensures.value ∙ any-list _ _ (λ x. eqb_flip x c.args.n) _ ∙ ap (has c.args.n) (run_is c.args.from c.args.count c.args.words.now c.requires.few)
