use mathlib.Core.Path.{◌≡◌}
use Prim.Native.Nat.{◌+◌, ◌≤◌}
use lib.Seq.{slice}
use Rattle.rules.specs.Lists.{total}
use Rattle.parts.specs.Seats.{seats}
use Rattle.parts.specs.Parts.{unacked_at}
use Rattle.link_outbox.specs.Tests.{low, stayer}
use Rattle.link_outbox.proofs.staying.Given as goal

abbrev pub invariant-loop-i : goal.invariant-loop-i
invariant-loop-i l = (l.i ≤ l.count) × (l.count ≤ 256) × (l.sum ≤ l.i) × (l.limit ≡ low l.ack) × (l.sum + total (stayer l.ack) (slice l.i l.count (seats 256 (unacked_at l.halves l.bytes))) ≡ total (stayer l.ack) (slice l.start l.count (seats 256 (unacked_at l.halves l.bytes))))
