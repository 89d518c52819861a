use mathlib.Core.Path.{◌≡◌}
use mathlib.Core.List.{List}
use Prim.Native.Nat.{ℕ, ◌+◌, ◌-◌, ◌≤◌}
use lib.Seq.{slice}
use Rattle.parts.specs.Seats.{seats}
use Rattle.parts.specs.Parts.{at, unacked_at}
use Rattle.link_outbox.specs.Tests.{falls}
use Rattle.link_outbox.proofs.falls_of.Given as goal

abbrev pub invariant-loop-i : goal.invariant-loop-i
invariant-loop-i l = (l.count ≤ 256) × (1 ≤ l.i) × (l.i ≤ l.count + 1) × (l.sum ≤ l.i) × ((b : List ℕ) → l.sum + falls (at l.halves (l.i - 1)) (slice l.i l.count (seats 256 (unacked_at l.halves b))) ≡ falls (at l.halves 0) (slice 1 l.count (seats 256 (unacked_at l.halves b))))
