use mathlib.Core.Path.{ap}
use Rattle.events.specs.Written.{books}
use Rattle.delivery.specs.declared.Step.{Step}
use Rattle.delivery.proofs.Steps.{did_request, reject_then}
use Rattle.delivery.proofs.take_reject.Goals as goal

pub returns : goal.returns
returns c d =
    let s = c.args.s in
    let b = books c.args.list.now s.events d s.at in
    let r = c.request.ensures in
    reject_then s.turn b 0 c.reject_inbound-turn.ensures (ap (λ (y : Step). y.turn) r.step) (did_request c.reject_inbound-turn.result b 0 r.listed r.step)
