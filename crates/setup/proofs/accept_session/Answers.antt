use mathlib.Core.Path.{refl, sym, ◌∙◌}
use borrow.Author.Tests.{not-true, not-false}
use Rattle.peer_session.specs.View.{state_of}
use Rattle.peer_session.proofs.View.{parts}
use Rattle.rules.specs.declared.Setup.TheVariants.{Waiting}
use Rattle.session.proofs.Lengths.{not_taken}
use Rattle.setup.proofs.Lending.{refused, comes}
use Rattle.setup.proofs.Accepts.{accepting, accept_spent, accept-again, accept_plain, accept_late, accept-first, waits}
use Rattle.rules.specs.Calls.{accepts}
use Rattle.rules.specs.Buffers.{taken_by, short, wrong_code, queue_reach}
use Rattle.session.specs.Promise.{lent}
use Rattle.session.proofs.Entries.{stops}
use Rattle.setup.proofs.accept_session.Goals as goal

pub returns-in-Err : goal.returns-in-Err
unfolding taken_by short wrong_code queue_reach
returns-in-Err c = λ l d q lq. stops (accepts c.args.terms c.args.body.now) c.args.s (lent l d c.args.outbound.now q) c.enters.ensures.tested c.in-Err.is c.refused.ensures refl refl (λ h. h) (λ h. lq) (λ e k t h. (accept_spent c.args.terms c.args.body.now t h, refl))

pub returns-then-not-no_setup : goal.returns-then-not-no_setup
returns-then-not-no_setup c = λ l d q lq. refused accepting c.args.s l d c.args.outbound.now q not_taken (λ e. c.in_default.ensures.passed.outbound) not_taken c.in_default.ensures.passed.sound c.in_default.ensures.passed.full c.in_default.ensures.passed.outbound lq c.refused-then-not-no_setup.ensures (accept-again c.args.terms c.args.body.now (state_of c.args.s c.args.outbound.now q) (c.in_default.ensures.passed.low refl) (sym c.no_setup.ensures ∙ c.if-not-no_setup.true))

pub returns-then-not-terms : goal.returns-then-not-terms
returns-then-not-terms c = λ l d q lq. waits accepting c.args.s l d c.args.outbound.now q (λ e. c.in_default.ensures.passed.outbound) c.in_default.ensures.passed.sound c.in_default.ensures.passed.full c.in_default.ensures.passed.outbound lq 1 (Waiting c.args.terms) c.accepted.ensures (accept_plain c.args.terms c.args.body.now (state_of c.args.s c.args.outbound.now q) (c.in_default.ensures.passed.low refl) (sym c.no_setup.ensures ∙ c.if-not-no_setup.false) (not-true _ c.if-not-terms.true))

pub returns-then-s-ne1 : goal.returns-then-s-ne1
returns-then-s-ne1 c = λ l d q lq. refused accepting c.args.s l d c.args.outbound.now q not_taken (λ e. c.in_default.ensures.passed.outbound) not_taken c.in_default.ensures.passed.sound c.in_default.ensures.passed.full c.in_default.ensures.passed.outbound lq c.refused-then-s-ne1.ensures (accept_late c.args.terms c.args.body.now (state_of c.args.s c.args.outbound.now q) (c.in_default.ensures.passed.low refl) (sym c.no_setup.ensures ∙ c.if-not-no_setup.false) (not-false _ c.if-not-terms.false) c.if-s-ne1.true)

pub propose-requires : goal.propose-requires
propose-requires c = record { exact = (parts c.args.s c.in_default.ensures.passed.sound c.in_default.ensures.passed.full).unacked c.args.outbound.now c.in_default.ensures.passed.outbound; low = c.in_default.ensures.passed.low refl }

pub returns : goal.returns
returns c = λ l d q lq. comes accepting c.args.s l d c.args.outbound.now q not_taken c.in_default.ensures.passed.sound c.in_default.ensures.passed.full c.in_default.ensures.passed.outbound lq (c.propose.ensures l) (accept-first c.args.terms c.args.body.now (state_of c.args.s c.args.outbound.now q) (c.in_default.ensures.passed.low refl) (sym c.no_setup.ensures ∙ c.if-not-no_setup.false) (not-false _ c.if-not-terms.false) c.if-s-ne1.false) (λ e. refl)
