use mathlib.Core.Path.{sym}
use Rattle.text.proofs.Numbers.{digit_low, digit_high, digit_below, digit_between, digit_above}
use Rattle.text.proofs.digit.Goals as goal

pub returns-in-48-to-57 : goal.returns-in-48-to-57
returns-in-48-to-57 c = sym (digit_low _ c.in-48-to-57.if-b-lt48-own.false c.in-48-to-57.if-b-lt58-own.true)

pub returns-in-97-to-102 : goal.returns-in-97-to-102
returns-in-97-to-102 c = sym (digit_high _ c.in-97-to-102.if-b-lt97-own.false c.in-97-to-102.if-b-lt103-own.true)

pub returns-in_default : goal.returns-in_default
returns-in_default c = sym (digit_below _ c.in_default.if-b-lt48-own.true)

pub returns-in_default-2 : goal.returns-in_default-2
returns-in_default-2 c = sym (digit_between _ c.in_default.if-b-lt58-own.false c.in_default.if-b-lt97-own.true)

pub returns-in_default-3 : goal.returns-in_default-3
returns-in_default-3 c = sym (digit_above _ c.in_default.if-b-lt103-own.false)
