use Rattle.rules.specs.Replay.{not_pending}
use Rattle.outbox.proofs.Listings.{Listing}
use Rattle.outbox.proofs.replay.Given as goal

abbrev pub invariant-loop-u : goal.invariant-loop-u
invariant-loop-u l = Listing not_pending l.fn.o l.initial.list l.n l.list l.events l.at l.u-index
