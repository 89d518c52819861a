use mathlib.Core.Path.{refl}
use native.Mathlib.Omega.{arith}
use lib.ListN.{length}
use Rattle.events.specs.Written.{books}
use Rattle.delivery.specs.Turns.{lent_frame}
use Rattle.delivery.proofs.Steps.{did_stays, did_message, did_consumed, raw_is, idle_is}
use Rattle.delivery.proofs.consume.Goals as goal

pub returns-in-Raw : goal.returns-in-Raw
returns-in-Raw c =
    let s = c.args.s in
    let f = lent_frame c.args.f in
    did_consumed f c.in-Raw.is (raw_is f) (omega arith)
    (did_message s.turn (books c.args.list.now s.events c.args.delivery.now s.at) f c.hand_over.ensures.written c.hand_over.ensures.step)

pub returns-in-Rejection : goal.returns-in-Rejection
returns-in-Rejection c = c.consume_rejection.ensures c.args.delivery.now

pub returns-in-Channel : goal.returns-in-Channel
returns-in-Channel c =
    let s = c.args.s in
    let f = lent_frame c.args.f in
    did_consumed f refl (λ st. idle_is f st s.turn.mode c.in-Channel.is) (omega arith)
    (did_stays s.turn (books c.args.list.now s.events c.args.delivery.now s.at) (length f.body))
