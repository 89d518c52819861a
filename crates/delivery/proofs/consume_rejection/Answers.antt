use native.Mathlib.Omega.{arith}
use lib.ListN.{length}
use Rattle.events.specs.Written.{books}
use Rattle.delivery.specs.Turns.{lent_frame}
use Rattle.delivery.proofs.Steps.{did_stays, did_consumed, rejection_first, rejection_another}
use Rattle.delivery.proofs.consume_rejection.Goals as goal

pub returns-then-f : goal.returns-then-f
returns-then-f c d =
    let f = lent_frame c.args.f in
    did_consumed f c.requires.mode (λ st. rejection_first f st c.if-f-eq1.true c.if-f.true) (omega arith) (c.answer_proposal.ensures d)

pub returns : goal.returns
returns c d =
    let s = c.args.s in
    let f = lent_frame c.args.f in
    did_consumed f c.requires.mode (λ st. rejection_another f st c.else-f-eq1.either) (omega arith)
    (did_stays s.turn (books c.args.list.now s.events d s.at) (length f.body))
