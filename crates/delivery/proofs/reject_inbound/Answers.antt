use borrow.Author.Tests.{not-true, not-false}
use Rattle.delivery.proofs.Changes.{reject-none, reject_some}
use Rattle.delivery.proofs.reject_inbound.Goals as goal

pub returns-then-not-t : goal.returns-then-not-t
returns-then-not-t c = reject-none c.args.t (not-true _ c.if-not-t.true)

pub returns : goal.returns
returns c = reject_some c.args.t (not-false _ c.if-not-t.false)
