use mathlib.Core.Path.{◌∙◌}
use native.Mathlib.Omega.{arith}
use borrow.Author.Tests.{eq-eqb}
use Rattle.link_numbers.proofs.Asked.{most_last, most_none}
use Rattle.link_numbers.proofs.at_most.Goals as goal

pub returns-then-count-eq0 : goal.returns-then-count-eq0
returns-then-count-eq0 c = eq-eqb _ _ c.if-count-eq0.true ∙ most_none c.args.from c.args.words.now c.args.count c.args.limit c.if-count-eq0.true

pub returns-else-count-eq0 : goal.returns-else-count-eq0
returns-else-count-eq0 c =
    most_last c.args.from c.args.words.now c.args.count (omega arith) (omega arith) c.requires.1 c.args.limit c.if-count-eq0.false
