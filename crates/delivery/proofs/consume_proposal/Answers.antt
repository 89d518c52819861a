use native.Mathlib.Omega.{arith}
use lib.ListN.{length}
use Rattle.rules.specs.declared.Refusal.TheVariants.{NotAProposal}
use Rattle.events.specs.Written.{books}
use Rattle.delivery.specs.Turns.{lent_frame}
use Rattle.delivery.proofs.Steps.{did_halts, did_consumed, proposal_reject, proposal_first, proposal_another}
use Rattle.delivery.proofs.consume_proposal.Goals as goal

pub returns-then-f : goal.returns-then-f
returns-then-f c =
    let f = lent_frame c.args.f in
    did_consumed f c.requires.mode (λ st. proposal_reject f st c.if-f.true) (omega arith) (c.take_reject.ensures c.args.delivery.now)

pub returns-then-f-2 : goal.returns-then-f-2
returns-then-f-2 c =
    let f = lent_frame c.args.f in
    did_consumed f c.requires.mode (λ st. proposal_first f st c.if-f.false c.if-f-eq1.true c.if-f-2.true) (omega arith) c.take_proposal.ensures

pub returns : goal.returns
returns c =
    let s = c.args.s in
    let f = lent_frame c.args.f in
    did_consumed f c.requires.mode (λ st. proposal_another f st c.if-f.false c.else-f-eq1.either) (omega arith)
    (did_halts s.turn (books c.args.list.now s.events c.args.delivery.now s.at) NotAProposal (length f.body))
