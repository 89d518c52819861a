use Rattle.numbers.proofs.Passes.{all_unlisted, all_more, all_listed}
use Rattle.numbers.proofs.list_run.Goals as goal

pub loop-i-init : goal.loop-i-init
loop-i-init c = all_unlisted _ _ _ c.requires

pub loop-i-preserved : goal.loop-i-preserved
loop-i-preserved c = all_more c.loop-i.invariant c.loop-i-test.true c.emit.auto.list c.emit.ensures

pub returns-clause-listed : goal.returns-clause-listed
returns-clause-listed c = all_listed c.loop-i.invariant c.loop-i-test.false
