use Rattle.text.proofs.Numbers.{Reading}
use Rattle.text.proofs.read_number.Given as goal

abbrev pub invariant-loop-b : goal.invariant-loop-b
invariant-loop-b l = Reading l.base l.s l.n l.b-index
