use native.Mathlib.Omega.{arith}
use Rattle.starts.proofs.Slices.{length-small}
use Rattle.link_starts.proofs.Messages.{writing_none, writing_more}
use Rattle.link_starts.proofs.records.Goals as goal

pub loop-i-init : goal.loop-i-init
loop-i-init c = writing_none _ _ _ _ c.requires (omega arith) (omega arith)

pub overflow_cast-halves-in-loop-i : goal.overflow_cast-halves-in-loop-i
overflow_cast-halves-in-loop-i c = omega (arith, length-small _ _ c.loop-i.i c.loop-i.invariant.fitting c.loop-i-test.true)

pub loop-i-preserved : goal.loop-i-preserved
loop-i-preserved c = writing_more c.loop-i.invariant c.loop-i-test.true
