use Rattle.outbox.proofs.Flags.{Flagging, sent-flags}
use Rattle.outbox.proofs.mark_sent.Given as goal

abbrev pub invariant-loop-i : goal.invariant-loop-i
invariant-loop-i l = Flagging (sent-flags l.number) l.initial.r l.r l.i
