use mathlib.Core.Path.{ap}
use Rattle.std.proofs.Common.{◌≡◌, Err, rules}
use Rattle.rules.specs.Progress.{request}
use Rattle.events.specs.Written.{books}
use Rattle.delivery.specs.declared.Step.{Step}
use Rattle.delivery.proofs.Steps.{did_request, proposal_then, proposal_refused}
use Rattle.delivery.proofs.answer_proposal.Goals as goal

pub returns-in_err-turn : goal.returns-in_err-turn
returns-in_err-turn c d =
    let s = c.args.s in
    let e : c.from_residual.result ≡ Err c.in_err-turn.field-0.0 = search rules in
    rw e (proposal_refused s.turn (books c.args.list.now s.events d s.at) 0 c.in_err-turn.ensures request)

pub returns : goal.returns
returns c d =
    let s = c.args.s in
    let b = books c.args.list.now s.events d s.at in
    let r = c.request.ensures in
    proposal_then s.turn b 0 c.in_ok-turn.ensures request (ap (λ (y : Step). y.turn) r.step) (did_request c.in_ok-turn.turn b 0 r.listed r.step)
