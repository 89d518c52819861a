use Rattle.link_setup.proofs.Rejects.{is-asked}
use Rattle.link_setup.proofs.done.Goals as goal

pub returns : goal.returns
returns c = is-asked c.clock_in-k.ensures c.request-n.ensures c.done.ensures
