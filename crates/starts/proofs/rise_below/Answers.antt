use mathlib.Core.Path.{sym}
use Rattle.starts.proofs.Slices.{risen_more, risen_not, risen_over, risen_all}
use Rattle.starts.proofs.rise_below.Goals as goal
use Rattle.starts.proofs.rise_below.Goals.{then-n-last-via-then-n-last, then-n-last-via-else-n-last+then-next-n}

pub returns-then-n-last : goal.returns-then-n-last
returns-then-n-last c =
    elim c.then-n-last.branch [
      | then-n-last-via-then-n-last w ↦ sym (risen_not c.loop-n.invariant c.loop-n-test.true w.if-n-last.true)
      | then-n-last-via-else-n-last+then-next-n w ↦ sym (risen_over c.loop-n.invariant c.loop-n-test.true w.if-next-n.true)
    ]

pub loop-n-preserved : goal.loop-n-preserved
loop-n-preserved c = risen_more c.loop-n.invariant c.loop-n-test.true c.if-n-last.false c.if-next-n.false

pub returns : goal.returns
returns c = sym (risen_all c.loop-n.invariant c.loop-n-test.false)
