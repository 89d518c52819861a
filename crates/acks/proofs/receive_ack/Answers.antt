use mathlib.Core.Path.{refl}
use native.Mathlib.Omega.{arith}
use Rattle.rules.specs.Calls.{gets_ack}
use Rattle.rules.specs.Buffers.{taken_by, short, wrong_code, queue_reach}
use Rattle.peer_session.proofs.View.{parts}
use Rattle.session.specs.Promise.{lent}
use Rattle.session.proofs.Entries.{stops}
use Rattle.acks.proofs.Acks.{too_low, too_high, in_range, spent, fails, goes}
use Rattle.acks.proofs.receive_ack.Goals as goal

pub returns-in-Err : goal.returns-in-Err
unfolding taken_by short wrong_code queue_reach
returns-in-Err c = λ d. stops (gets_ack c.args.number) c.args.s (lent c.args.list.now d c.args.outbound.now c.args.queue.now) c.enters.ensures.tested c.in-Err.is c.refused.ensures refl refl (λ h. h) (λ h. h) (λ e k t h. (spent c.args.number t h, refl))

pub out_of_range-requires : goal.out_of_range-requires
out_of_range-requires c = (c.in_default.ensures.passed.list, (parts c.args.s c.in_default.ensures.passed.sound c.in_default.ensures.passed.full).queued c.args.queue.now c.in_default.ensures.passed.queue)

pub returns-then-number-lt1 : goal.returns-then-number-lt1
returns-then-number-lt1 c = λ d. fails c.args.number c.args.s c.args.list.now c.args.outbound.now c.args.queue.now d c.in_default.ensures.passed.list c.in_default.ensures.passed.outbound c.in_default.ensures.passed.queue c.in_default.ensures.passed.sound c.in_default.ensures.passed.full (c.in_default.ensures.passed.low refl) (too_low _ _ c.if-number-lt1.true) c.out_of_range.ensures

pub overflow_sub-s : goal.overflow_sub-s
overflow_sub-s c = omega (arith, (parts c.args.s c.in_default.ensures.passed.sound c.in_default.ensures.passed.full).first)

pub out_of_range-requires-then-s-number : goal.out_of_range-requires-then-s-number
out_of_range-requires-then-s-number c = (c.in_default.ensures.passed.list, (parts c.args.s c.in_default.ensures.passed.sound c.in_default.ensures.passed.full).queued c.args.queue.now c.in_default.ensures.passed.queue)

pub returns-then-s-number : goal.returns-then-s-number
returns-then-s-number c = λ d. fails c.args.number c.args.s c.args.list.now c.args.outbound.now c.args.queue.now d c.in_default.ensures.passed.list c.in_default.ensures.passed.outbound c.in_default.ensures.passed.queue c.in_default.ensures.passed.sound c.in_default.ensures.passed.full (c.in_default.ensures.passed.low refl) (too_high _ _ c.if-number-lt1.false c.if-s-number.true) c.out_of_range-then-s-number.ensures

pub acknowledged-requires : goal.acknowledged-requires
acknowledged-requires c = (c.in_default.ensures.passed.list, record { exact = (parts c.args.s c.in_default.ensures.passed.sound c.in_default.ensures.passed.full).unacked c.args.outbound.now c.in_default.ensures.passed.outbound; low = c.in_default.ensures.passed.low refl })

pub returns : goal.returns
returns c = λ d. goes c.args.number c.args.s c.args.list.now c.args.outbound.now c.args.queue.now d c.in_default.ensures.passed.list c.in_default.ensures.passed.outbound c.in_default.ensures.passed.queue c.in_default.ensures.passed.sound c.in_default.ensures.passed.full (c.in_default.ensures.passed.low refl) (in_range _ _ c.if-number-lt1.false c.if-s-number.false) c.acknowledged.ensures
