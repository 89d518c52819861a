use mathlib.Core.Path.{sym, ◌∙◌}
use Rattle.std.proofs.Common.{rules}
use borrow.Author.Tests.{eqb-true, eqb-false}
use Rattle.text.proofs.Pairs.{pairs-none, pairs_odd, pairs_even}
use Rattle.text.proofs.is_pairs.Goals.{then-not-is_empty, else-not-is_empty}
use Rattle.text.proofs.is_pairs.Goals as goal

pub returns-then-s-eq0 : goal.returns-then-s-eq0
returns-then-s-eq0 c =
    elim c.if-not-is_empty.branch [
      | then-not-is_empty w ↦ c.is_hex.ensures ∙ pairs_even _ (search rules) (eqb-true _ _ (sym w.value-is ∙ c.if-s-eq0.true))
      | else-not-is_empty w ↦ absurd (search rules)
    ]

pub returns-else-s-eq0 : goal.returns-else-s-eq0
returns-else-s-eq0 c =
    elim c.if-not-is_empty.branch [
      | then-not-is_empty w ↦ c.if-s-eq0.false ∙ pairs_odd _ (search rules) (eqb-false _ _ (sym w.value-is ∙ c.if-s-eq0.false))
      | else-not-is_empty w ↦ c.if-s-eq0.false ∙ pairs-none _ (search rules)
    ]
