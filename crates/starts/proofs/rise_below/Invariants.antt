use Rattle.starts.proofs.Slices.{Risen}
use Rattle.starts.proofs.rise_below.Given as goal

abbrev pub invariant-loop-n : goal.invariant-loop-n
invariant-loop-n l = Risen l.next l.numbers l.last l.n-index
