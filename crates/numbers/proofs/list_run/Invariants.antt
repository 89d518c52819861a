use Rattle.numbers.proofs.Passes.{ListingAll}
use Rattle.numbers.proofs.list_run.Given as goal

abbrev pub invariant-loop-i : goal.invariant-loop-i
invariant-loop-i l = ListingAll l.run l.initial.list l.n l.list l.i
