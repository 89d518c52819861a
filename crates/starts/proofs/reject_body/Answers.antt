use Rattle.starts.proofs.Begins.{rejecting}
use Rattle.starts.proofs.reject_body.Goals as goal

pub returns : goal.returns
returns c = rejecting _ _ c.requires c.copy_in.ensures
