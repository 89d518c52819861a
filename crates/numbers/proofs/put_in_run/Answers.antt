use Rattle.numbers.proofs.Laws.{put_run}
use Rattle.numbers.proofs.put_in_run.Goals as goal

pub returns : goal.returns
returns c = put_run c.args.run.now _ c.args.at c.args.n c.requires c.move_run.ensures
