use lib.ListN.{length}
use Rattle.stores.proofs.Sifts.{Sifted}
use Rattle.rules.specs.Acks.{differs_from}
use Rattle.numbers.proofs.drop_from_run.Given as goal

abbrev pub invariant-loop-i : goal.invariant-loop-i
invariant-loop-i l = Sifted (differs_from l.n) l.initial.run (length l.initial.run) l.run l.i l.k
