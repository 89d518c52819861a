use mathlib.Core.Path.{refl}
use Rattle.rules.specs.Calls.{sends}
use Rattle.rules.specs.Buffers.{taken_by, short, wrong_code, queue_reach}
use Rattle.peer_session.proofs.View.{parts}
use Rattle.session.specs.Promise.{lent}
use Rattle.session.proofs.Entries.{stops}
use Rattle.sending.proofs.Sends.{spent, below, joins_not, joined}
use Rattle.sending.proofs.send_message.Goals as goal

pub returns-in-Err : goal.returns-in-Err
unfolding taken_by short wrong_code queue_reach
returns-in-Err c = λ d q lq. stops (sends c.args.body.now) c.args.s (lent c.args.list.now d c.args.outbound.now q) c.enters.ensures.tested c.in-Err.is c.refused.ensures refl refl (λ h. h) (λ h. lq) (λ e k t h. (spent c.args.body.now t h, refl))

pub join-requires : goal.join-requires
join-requires c = record { exact = (parts c.args.s c.in_default.ensures.passed.sound c.in_default.ensures.passed.full).unacked c.args.outbound.now c.in_default.ensures.passed.outbound; low = below c.in_default.ensures.passed.low }

pub returns-in-Ok : goal.returns-in-Ok
returns-in-Ok c = joined c.args.s c.args.list.now c.args.outbound.now c.args.body.now c.in_default.ensures.passed.list c.in_default.ensures.passed.outbound c.in_default.ensures.passed.sound c.in_default.ensures.passed.full (below c.in_default.ensures.passed.low) c.in-Ok.ensures c.request-n.ensures

pub returns-in-Err-join : goal.returns-in-Err-join
returns-in-Err-join c = joins_not c.args.s c.args.list.now c.args.outbound.now c.args.body.now c.in_default.ensures.passed.list c.in_default.ensures.passed.outbound c.in_default.ensures.passed.sound c.in_default.ensures.passed.full (below c.in_default.ensures.passed.low) c.in-Err-join.ensures c.refused-in-Err-join.ensures
