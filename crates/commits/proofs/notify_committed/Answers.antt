-- `commits::notify_committed` meets its contract. Assumes nothing.
use Rattle.commits.proofs.Releases.{told}
use Rattle.commits.proofs.notify_committed.Goals as goal

pub returns : goal.returns
returns c = told c.args.persisted c.emit_if.ensures
