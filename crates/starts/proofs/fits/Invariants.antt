use lib.ListN.{length}
use Rattle.starts.proofs.Slices.{Counted}
use Rattle.starts.proofs.fits.Given as goal

abbrev pub invariant-loop-k : goal.invariant-loop-k
invariant-loop-k l = Counted l.k-items (length l.k-items) l.fn.limit l.left l.k-index
