use mathlib.Core.Path.{◌≡◌}
use lib.ListN.{drop}
use Rattle.rules.specs.Lists.{all}
use Rattle.text.specs.Numbers.{is_digit_byte}
use Rattle.text.proofs.is_hex.Given as goal

abbrev pub invariant-loop-b : goal.invariant-loop-b
invariant-loop-b l = all (is_digit_byte 16) (drop l.b-index l.s) ≡ all (is_digit_byte 16) l.fn.s
