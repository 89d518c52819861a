use Rattle.draining.proofs.Failing.{abandons}
use Rattle.draining.proofs.abandon.Goals as goal

pub returns : goal.returns
returns c = abandons c.requires c.advance-r.ensures c.fail.ensures
