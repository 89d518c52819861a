use Rattle.queue.proofs.View.{repacked_as}
use Rattle.queue.proofs.Changes.{none_left}
use Rattle.queue.proofs.clear.Goals as goal

pub returns : goal.returns
returns c = repacked_as (none_left c.args.q c.args.store.now c.requires) c.drop_front.ensures
