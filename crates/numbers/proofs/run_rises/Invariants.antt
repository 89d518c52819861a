use mathlib.Core.Path.{◌≡◌}
use lib.ListN.{length}
use lib.Seq.{slice}
use Rattle.rules.specs.Lists.{rising, itself}
use Rattle.numbers.proofs.run_rises.Given as goal

abbrev pub invariant-loop-x : goal.invariant-loop-x
invariant-loop-x l = rising itself l.top (slice l.x-index (length l.run) l.run) ≡ rising itself l.fn.last l.fn.run
