use lib.ListN.{length}
use Rattle.stores.proofs.Runs.{Run}
use Rattle.stores.proofs.copy_in.Given as goal

abbrev pub invariant-loop-j : goal.invariant-loop-j
invariant-loop-j g l = Run l.initial.store l.at l.body (length l.body) l.store l.j
