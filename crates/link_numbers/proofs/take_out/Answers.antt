use Rattle.rules.specs.Acks.{differs_from}
use Rattle.link_numbers.proofs.Changes.{run_keeps}
use Rattle.link_numbers.proofs.take_out.Goals as goal

pub returns : goal.returns
returns c = run_keeps c.requires _ c.drop_from_run-left.auto.run (differs_from c.args.n) c.drop_from_run-left.ensures
