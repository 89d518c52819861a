use Rattle.starts.proofs.Slices.{Filling}
use Rattle.starts.proofs.records.Given as goal

abbrev pub invariant-loop-i : goal.invariant-loop-i
invariant-loop-i l = Filling l.«record».numbers.now l.«record».lengths.now l.records l.i
