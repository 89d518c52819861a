use mathlib.Core.Path.{ap, ◌∙◌}
use Rattle.rules.specs.Sound.{ascending}
use Rattle.link_numbers.proofs.Asked.{run_is}
use Rattle.link_numbers.proofs.ascends.Goals as goal

pub returns : goal.returns
returns c = c.run_ascends.ensures ∙ ap ascending (run_is c.args.from c.args.count c.args.words.now c.requires.few)
