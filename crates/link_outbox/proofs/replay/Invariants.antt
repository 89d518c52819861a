use mathlib.Core.Path.{◌≡◌}
use Rattle.rules.specs.Replay.{not_pending}
use Rattle.outbox.proofs.Listings.{Listing}
use Rattle.parts.specs.Parts.{at, outbox_in}
use Rattle.link_outbox.proofs.replay.Given as goal

abbrev pub invariant-loop-i : goal.invariant-loop-i
invariant-loop-i l =
    (l.count ≡ at l.words 1) × Listing not_pending (outbox_in l.words l.halves l.bytes) l.initial.list l.n l.list l.k l.from l.i
