use native.Mathlib.Omega.{arith}
use Rattle.starts.proofs.Slices.{filling_none, filling_more, length-small}
use Rattle.starts.proofs.records.Goals as goal

pub loop-i-init : goal.loop-i-init
loop-i-init c = filling_none _ _ c.requires

pub overflow_cast-records-in-loop-i : goal.overflow_cast-records-in-loop-i
overflow_cast-records-in-loop-i c = omega (arith, length-small _ _ c.loop-i.i c.loop-i.invariant.fitting c.loop-i-test.true)

pub loop-i-preserved : goal.loop-i-preserved
loop-i-preserved c = filling_more c.loop-i.invariant c.loop-i-test.true
