use Rattle.numbers.proofs.Passes.{Releasing}
use Rattle.numbers.proofs.release_run.Given as goal

abbrev pub invariant-loop-i : goal.invariant-loop-i
invariant-loop-i l = Releasing l.upto l.initial.run l.initial.list l.n l.list l.run l.events l.count l.i
