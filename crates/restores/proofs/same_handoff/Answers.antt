use mathlib.Core.Path.{sym, ◌∙◌}
use borrow.Author.Tests.{not-true, not-false}
use Rattle.restores.specs.Restored.{lent_handoff}
use Rattle.restores.specs.Steps.{held_in}
use Rattle.restores.proofs.Handoffs.{other-id, other-number, other-body, other-sent, by_acknowledged}
use Rattle.restores.proofs.same_handoff.Goals as goal

pub returns-then-h-given : goal.returns-then-h-given
returns-then-h-given c = other-id (held_in c.args.h) (lent_handoff c.args.given) c.if-h-given.true

pub returns-then-h-given-2 : goal.returns-then-h-given-2
returns-then-h-given-2 c = other-number (held_in c.args.h) (lent_handoff c.args.given) c.if-h-given.false c.if-h-given-2.true

pub returns-then-not-same_bytes : goal.returns-then-not-same_bytes
returns-then-not-same_bytes c = other-body (held_in c.args.h) (lent_handoff c.args.given) c.if-h-given.false c.if-h-given-2.false (sym c.same_bytes.ensures ∙ c.if-not-same_bytes.true)

pub returns-then-h-given-3 : goal.returns-then-h-given-3
returns-then-h-given-3 c = other-sent (held_in c.args.h) (lent_handoff c.args.given) c.if-h-given.false c.if-h-given-2.false (sym c.same_bytes.ensures ∙ c.if-not-same_bytes.false) (not-true _ c.if-h-given-3.true)

pub returns : goal.returns
returns c = by_acknowledged (held_in c.args.h) (lent_handoff c.args.given) c.if-h-given.false c.if-h-given-2.false (sym c.same_bytes.ensures ∙ c.if-not-same_bytes.false) (not-false _ c.if-h-given-3.false)
