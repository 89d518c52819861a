use mathlib.Core.Path.{◌≡◌}
use Rattle.rules.specs.Commits as R
use Rattle.outbox.proofs.Listings.{Listing}
use Rattle.parts.specs.Parts.{at, outbox_in}
use Rattle.link_outbox.proofs.Frees.{Freeing}
use Rattle.link_outbox.proofs.release.Given as goal

abbrev pub invariant-loop-i : goal.invariant-loop-i
invariant-loop-i l =
    (l.count ≡ at l.words 1) × Freeing l.upto l.halves l.initial.bytes l.bytes l.i × Listing (R.releases l.upto) (outbox_in l.words l.halves l.initial.bytes) l.initial.list l.n l.list l.k l.from l.i
