use Rattle.setup.proofs.Accepts.{reject-within}
use mathlib.Core.Path.{refl}
use Rattle.peer_session.specs.View.{state_of}
use Rattle.peer_session.proofs.View.{parts}
use Rattle.setup.proofs.Lending.{is-taken, comes}
use Rattle.setup.proofs.Accepts.{rejects_plain, reject_spent, reject-goes}
use Rattle.rules.specs.Calls.{rejects}
use Rattle.rules.specs.Buffers.{taken_by, short, wrong_code, queue_reach}
use Rattle.session.specs.Promise.{lent}
use Rattle.session.proofs.Entries.{stops}
use Rattle.setup.proofs.reject_session.Goals as goal

pub returns-in-Err : goal.returns-in-Err
unfolding taken_by short wrong_code queue_reach
returns-in-Err c = λ d q lq. stops rejects c.args.s (lent c.args.list.now d c.args.outbound.now q) c.enters.ensures.tested c.in-Err.is c.refused.ensures refl refl (λ h. h) (λ h. lq) (λ e k t h. (reject_spent t h, refl))

pub send_reject-requires : goal.send_reject-requires
send_reject-requires c = (c.in_default.ensures.passed.list, record { exact = (parts c.args.s c.in_default.ensures.passed.sound c.in_default.ensures.passed.full).unacked c.args.outbound.now c.in_default.ensures.passed.outbound; low = c.in_default.ensures.passed.low refl }, reject-within c.args.s c.args.outbound.now c.in_default.ensures.passed.sound c.in_default.ensures.passed.full c.in_default.ensures.passed.outbound)

pub returns : goal.returns
returns c = λ d q lq. comes rejects_plain c.args.s c.args.list.now d c.args.outbound.now q (λ e. c.in_default.ensures.passed.list) c.in_default.ensures.passed.sound c.in_default.ensures.passed.full c.in_default.ensures.passed.outbound lq c.send_reject.ensures (reject-goes (state_of c.args.s c.args.outbound.now q) (c.in_default.ensures.passed.low refl)) is-taken
