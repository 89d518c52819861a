use Rattle.link_starts.proofs.Messages.{Writing}
use Rattle.link_starts.proofs.records.Given as goal

abbrev pub invariant-loop-i : goal.invariant-loop-i
invariant-loop-i l = Writing l.«record».numbers.now l.«record».lengths.now l.initial.halves l.initial.bytes l.halves l.bytes l.i
