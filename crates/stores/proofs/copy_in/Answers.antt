use mathlib.Core.Path.{refl}
use Rattle.stores.proofs.Runs.{run_more, run-all}
use Rattle.stores.proofs.copy_in.Goals as goal

pub loop-j-preserved : goal.loop-j-preserved
loop-j-preserved g c = rw c.index-body-j.is (run_more c.loop-j.invariant c.index-body-j.result _ c.loop-j-test.true refl)

pub returns : goal.returns
returns g c = run-all c.loop-j.invariant c.loop-j-test.false
