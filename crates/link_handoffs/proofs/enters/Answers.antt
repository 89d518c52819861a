use borrow.Author.Rules.{rules}
use mathlib.Core.Path.{◌≡◌}
use Rattle.std.specs.Prelude.{Err}
use Rattle.parts.specs.Parts.{parts}
use Rattle.link_sending.proofs.Sends.{ready_to_send}
use Rattle.link_handoffs.proofs.Commands.{stopped_at_entry, size_too_long}
use Rattle.link_handoffs.proofs.enters.Goals as goal

pub returns-in_err-enters : goal.returns-in_err-enters
returns-in_err-enters c = λ t.
    let e : c.from_residual.result ≡ Err c.in_err-enters.field-0.0 = search rules in
    rw e (stopped_at_entry (c.in_err-enters.ensures.tested t))

pub returns-then-size-gt-MAX_HANDOFF : goal.returns-then-size-gt-MAX_HANDOFF
returns-then-size-gt-MAX_HANDOFF c = λ t.
    size_too_long (parts c.args.words.now c.args.halves.now c.args.bytes.now t) (ready_to_send (c.in_ok-enters.ensures.passed t)) c.if-size-gt-MAX_HANDOFF.true

pub returns : goal.returns
returns c = λ t. (ready_to_send (c.in_ok-enters.ensures.passed t), c.if-size-gt-MAX_HANDOFF.false)
