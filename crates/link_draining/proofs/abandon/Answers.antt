use Rattle.draining.proofs.Failing.{abandons}
use Rattle.link_draining.proofs.Ends.{failing_in}
use Rattle.link_draining.proofs.abandon.Goals as goal

pub fail-requires : goal.fail-requires
fail-requires c = failing_in c.advance.ensures c.requires.0

pub returns : goal.returns
returns c = abandons c.requires.0 c.advance.ensures.advances c.fail.ensures
