use mathlib.Core.Path.{ap}
use lib.ListN.{length}
use Rattle.std.proofs.Common.{◌≡◌, Err, rules}
use Rattle.rules.specs.Receiving.{hand_over}
use Rattle.events.specs.Written.{books}
use Rattle.delivery.specs.declared.Step.{Step}
use Rattle.delivery.specs.Turns.{lent_frame}
use Rattle.delivery.proofs.Steps.{did_message, proposal_then, proposal_refused}
use Rattle.delivery.proofs.take_proposal.Goals as goal

pub returns-in_err-turn : goal.returns-in_err-turn
returns-in_err-turn c =
    let s = c.args.s in
    let e : c.from_residual.result ≡ Err c.in_err-turn.field-0.0 = search rules in
    rw e
    (proposal_refused s.turn (books c.args.list.now s.events c.args.delivery.now s.at) (length c.args.f.body.now) c.in_err-turn.ensures (hand_over (lent_frame c.args.f)))

pub returns : goal.returns
returns c =
    let s = c.args.s in
    let b = books c.args.list.now s.events c.args.delivery.now s.at in
    let f = lent_frame c.args.f in
    let r = c.hand_over.ensures in
    proposal_then s.turn b (length f.body) c.in_ok-turn.ensures (hand_over f) (ap (λ (y : Step). y.turn) r.step)
    (did_message c.in_ok-turn.turn b f r.written r.step)
