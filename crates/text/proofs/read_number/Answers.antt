use mathlib.Core.Path.{sym, ◌∙◌}
use Rattle.std.proofs.Common.{rules}
use Rattle.text.proofs.Numbers.{reading_none, reading_more, reading_wrong, reading_all, number-none}
use Rattle.text.proofs.read_number.Goals as goal

pub returns-then-is_empty : goal.returns-then-is_empty
returns-then-is_empty c = sym (number-none _ _ (search rules))

pub loop-b-init : goal.loop-b-init
loop-b-init c = reading_none _ _ c.requires (search rules)

pub returns-in_err-n : goal.returns-in_err-n
returns-in_err-n c = c.from_residual.ensures ∙ reading_wrong c.loop-b.invariant c.loop-b-test.true c.in_err-n.ensures

pub loop-b-preserved : goal.loop-b-preserved
loop-b-preserved c = reading_more c.loop-b.invariant _ c.loop-b-test.true c.in_ok-n.ensures

pub returns : goal.returns
returns c = reading_all c.loop-b.invariant c.loop-b-test.false
