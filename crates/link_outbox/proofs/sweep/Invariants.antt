use mathlib.Core.Path.{◌≡◌}
use Prim.Native.Nat.{◌≤◌}
use Rattle.parts.specs.Parts.{at}
use Rattle.link_outbox.proofs.Sweeps.{Sweeps}
use Rattle.link_outbox.proofs.sweep.Given as goal

abbrev pub invariant-loop-i : goal.invariant-loop-i
invariant-loop-i l =
    (l.count ≡ at l.words 1) × (l.count ≤ 256) × (l.k ≤ l.i) × Sweeps l.ack l.count l.initial.halves l.initial.bytes l.initial.store l.halves l.bytes l.store l.k l.i l.to l.from
