use Rattle.std.proofs.Common.{◌≡◌, ℕ, List, ◌+◌, ◌≤◌, drop}
use Rattle.rules.specs.Lists.{total}
use Rattle.outbox.specs.View.{len_u}
use Rattle.outbox.specs.Records.{place_u}
use Rattle.link_outbox.proofs.Places.{held}
use Rattle.link_outbox.proofs.locate.Given as goal

-- the records that were passed do not have the number
abbrev pub invariant-loop-i : goal.invariant-loop-i
invariant-loop-i l =
    (b : List ℕ)
    → (l.start + total len_u (drop l.i (held l.halves b l.count)) ≤ 65536)
    × (place_u l.number l.start (drop l.i (held l.halves b l.count)) ≡ place_u l.number 0 (held l.halves b l.count))
