use Rattle.std.proofs.Common.{◌≡◌, Err, rules}
use Rattle.events.specs.Written.{books}
use Rattle.delivery.specs.Turns.{lent_frame}
use Rattle.delivery.proofs.Steps.{ready-within, deliver-goes, deliver-stops}
use Rattle.delivery.proofs.deliver.Goals as goal

pub returns-in_err-r : goal.returns-in_err-r
returns-in_err-r c =
    let s = c.args.s in
    let e : c.from_residual.result ≡ Err c.in_err-r.field-0.0 = search rules in
    rw e (deliver-stops (lent_frame c.args.f) s.turn (books c.args.list.now s.events c.args.delivery.now s.at) _ _ c.in_err-r.ensures)

pub returns : goal.returns
returns c =
    let s = c.args.s in
    deliver-goes (lent_frame c.args.f) s.turn (books c.args.list.now s.events c.args.delivery.now s.at) _ _ (ready-within c.args.list.now s.events c.args.delivery.now s.at c.requires)
    c.in_ok-r.r c.in_ok-r.ensures c.request.ensures.listed c.request.ensures.step
