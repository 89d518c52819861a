use mathlib.Core.Path.{◌≡◌}
use Rattle.outbox.proofs.Sweeps.{Turns}
use Rattle.outbox.proofs.acknowledge.Given as goal

abbrev pub invariant-loop-i : goal.invariant-loop-i
invariant-loop-i l =
    (l.r.next ≡ l.initial.r.next)
    × Turns l.ack l.i-end (record { records = l.initial.r.records; kept = 0; next = 0; to = 0; from = 0 }) l.initial.store (record { records = l.r.records; kept = l.k; next = l.i; to = l.to; from = l.from }) l.store
