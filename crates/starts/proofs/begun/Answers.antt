use Rattle.starts.proofs.Begins.{begun-is}
use Rattle.starts.proofs.begun.Goals as goal

pub returns : goal.returns
returns c = begun-is _ _ _ _ c.new.ensures c.records-outbox.ensures c.reject_body-body.ensures
