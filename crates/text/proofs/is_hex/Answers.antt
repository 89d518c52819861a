use mathlib.Core.Path.{sym, ◌∙◌}
use Rattle.text.specs.Numbers.{is_digit_byte}
use Rattle.text.proofs.Pairs.{is_digit, no_digit, all_more, all_stop, all_done}
use Rattle.text.proofs.is_hex.Goals as goal

pub returns-then-digit-ge16 : goal.returns-then-digit-ge16
returns-then-digit-ge16 c = sym (all_stop (is_digit_byte 16) _ c.loop-b.b-index c.loop-b-test.true (no_digit 16 _ c.digit.ensures c.if-digit-ge16.true)) ∙ c.loop-b.invariant

pub loop-b-preserved : goal.loop-b-preserved
loop-b-preserved c = sym (all_more (is_digit_byte 16) _ c.loop-b.b-index c.loop-b-test.true (is_digit 16 _ c.digit.ensures c.if-digit-ge16.false)) ∙ c.loop-b.invariant

pub returns : goal.returns
returns c = sym (all_done (is_digit_byte 16) _ _ c.loop-b-test.false) ∙ c.loop-b.invariant
