use Rattle.link_numbers.proofs.Changes.{run_puts}
use Rattle.link_numbers.proofs.put_at.Goals as goal

pub returns : goal.returns
returns c = run_puts c.requires.0 c.requires.2 c.args.i c.args.n c.requires.1 _ c.put_in_run.auto.run c.put_in_run.ensures
