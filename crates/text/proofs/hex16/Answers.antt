use mathlib.Core.Path.{sym, ◌∙◌}
use Rattle.text.proofs.Numbers.{hex16_other, hex16_whole}
use Rattle.text.proofs.hex16.Goals as goal

pub returns-then-s-ne16 : goal.returns-then-s-ne16
returns-then-s-ne16 c = sym (hex16_other _ c.if-s-ne16.true)

pub returns : goal.returns
returns c = c.read_number.ensures ∙ sym (hex16_whole _ c.if-s-ne16.false)
