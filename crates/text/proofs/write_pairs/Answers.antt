use native.Mathlib.Omega.{arith}
use Rattle.stores.proofs.Runs.{run_none, run-all}
use Rattle.text.proofs.Pairs.{digit_at, length_pairs, run-pairs}
use Rattle.text.proofs.write_pairs.Goals as goal

pub loop-i-init : goal.loop-i-init
loop-i-init c = run_none _ 0 _ (length_pairs _ _ c.requires.0) (omega arith)

pub pair-requires : goal.pair-requires
pair-requires c = (digit_at _ c.requires.2 _ (omega arith), digit_at _ c.requires.2 _ (omega arith))

pub loop-i-preserved : goal.loop-i-preserved
loop-i-preserved c = run-pairs _ c.loop-i.invariant c.requires.0 c.loop-i-test.true c.pair.ensures

pub returns : goal.returns
returns c = run-all c.loop-i.invariant c.loop-i-test.false
