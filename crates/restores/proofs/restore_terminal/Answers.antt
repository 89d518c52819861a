use mathlib.Core.Path.{sym, ◌∙◌}
use Rattle.restores.specs.Restored.{given_if}
use Rattle.restores.proofs.Handoffs.{ends-other, ends-handed}
use Rattle.restores.proofs.restore_terminal.Goals as goal

pub returns-then-not-agrees : goal.returns-then-not-agrees
returns-then-not-agrees c = ends-other (given_if c.args.given) c.args.s (sym c.agrees.ensures ∙ c.if-not-agrees.true) c.refused.ensures

pub returns : goal.returns
returns c = ends-handed (given_if c.args.given) c.args.s c.handed-new.result (sym c.agrees.ensures ∙ c.if-not-agrees.false) c.handed-new.ensures
