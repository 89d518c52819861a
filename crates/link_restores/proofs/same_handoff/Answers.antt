use mathlib.Core.Path.{◌∙◌}
use borrow.Author.Tests.{not-true, not-false}
use Rattle.restores.specs.Restored.{lent_handoff}
use Rattle.restores.specs.Steps.{held_in}
use Rattle.restores.proofs.Handoffs.{other-id, other-number, other-body, other-sent, by_acknowledged}
use Rattle.parts.specs.Parts.{handoff_in}
use Rattle.link_restores.proofs.Handoffs.{body-told}
use Rattle.link_restores.proofs.same_handoff.Goals as goal

pub returns-then-words-given : goal.returns-then-words-given
returns-then-words-given c = other-id (held_in (handoff_in c.args.words.now c.args.bytes.now)) (lent_handoff c.args.given) c.if-words-given.true

pub returns-then-words-given-2 : goal.returns-then-words-given-2
returns-then-words-given-2 c = other-number (held_in (handoff_in c.args.words.now c.args.bytes.now)) (lent_handoff c.args.given) c.if-words-given.false c.if-words-given-2.true

pub returns-then-not-same_bytes : goal.returns-then-not-same_bytes
returns-then-not-same_bytes c = other-body (held_in (handoff_in c.args.words.now c.args.bytes.now)) (lent_handoff c.args.given) c.if-words-given.false c.if-words-given-2.false (body-told c.args.given.body.now c.handoff_body.ensures c.same_bytes.ensures ∙ c.if-not-same_bytes.true)

pub returns-then-bytes-given : goal.returns-then-bytes-given
returns-then-bytes-given c = other-sent (held_in (handoff_in c.args.words.now c.args.bytes.now)) (lent_handoff c.args.given) c.if-words-given.false c.if-words-given-2.false (body-told c.args.given.body.now c.handoff_body.ensures c.same_bytes.ensures ∙ c.if-not-same_bytes.false) (not-true _ c.if-bytes-given.true)

pub returns : goal.returns
returns c = by_acknowledged (held_in (handoff_in c.args.words.now c.args.bytes.now)) (lent_handoff c.args.given) c.if-words-given.false c.if-words-given-2.false (body-told c.args.given.body.now c.handoff_body.ensures c.same_bytes.ensures ∙ c.if-not-same_bytes.false) (not-false _ c.if-bytes-given.false)
