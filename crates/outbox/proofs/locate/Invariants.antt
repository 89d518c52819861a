use Rattle.std.proofs.Common.{◌≡◌, ◌+◌, ◌≤◌, drop}
use Rattle.rules.specs.Lists.{total}
use Rattle.outbox.specs.View.{len_u}
use Rattle.outbox.specs.Records.{place_u}
use Rattle.outbox.proofs.locate.Given as goal

-- the records that were passed do not have the number
abbrev pub invariant-loop-u : goal.invariant-loop-u
invariant-loop-u l =
    (l.start + total len_u (drop l.u-index l.u-items) ≤ 65536)
    × (place_u l.number l.start (drop l.u-index l.u-items) ≡ place_u l.number 0 l.u-items)
