use Prim.Native.Nat.{◌-◌}
use Rattle.text.specs.Hex.{pairs}
use Rattle.stores.proofs.Runs.{Run}
use Rattle.text.proofs.write_pairs.Given as goal

abbrev pub invariant-loop-i : goal.invariant-loop-i
invariant-loop-i l = Run l.initial.out 0 (pairs l.s) l.n l.out l.i

abbrev pub decreases-loop-i : goal.decreases-loop-i
decreases-loop-i l = l.n - l.i
