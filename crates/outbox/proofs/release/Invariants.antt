use Rattle.rules.specs.Commits as R
use Rattle.outbox.proofs.Flags.{Flagging, release-flags}
use Rattle.outbox.proofs.Listings.{Listing}
use Rattle.outbox.proofs.release.Given as goal

abbrev pub invariant-loop-i : goal.invariant-loop-i
invariant-loop-i l =
    Flagging (release-flags l.upto) l.initial.outbox l.outbox l.i × Listing (R.releases l.upto) l.initial.outbox l.initial.list l.n l.list l.events l.at l.i
