use native.Mathlib.Omega.{arith}
use Rattle.parts.specs.Parts.{unacked_at}
use Rattle.link_outbox.specs.Tests.{stayer}
use Rattle.link_outbox.proofs.Sounds.{total-seats, total-end}
use Rattle.link_outbox.proofs.Fronts.{stayer-one}
use Rattle.link_outbox.proofs.staying.Goals as goal

pub loop-i-preserved : goal.loop-i-preserved
loop-i-preserved c =
    let l = c.loop-i in
    let a = c.args in (
      omega arith,
      l.invariant.1,
      omega (arith, c.stay_of-sum.ensures a.ack l.invariant.3, stayer-one a.ack (unacked_at a.halves.now a.bytes.now l.i)),
      l.invariant.3,
      omega (arith, l.invariant.4, c.stay_of-sum.ensures a.ack l.invariant.3, total-seats (unacked_at a.halves.now a.bytes.now) l.i a.count (stayer a.ack) c.loop-i-test.true l.invariant.1),
    )

pub returns : goal.returns
returns c = omega (arith, c.loop-i.invariant.4, total-end (unacked_at c.args.halves.now c.args.bytes.now) c.loop-i.i c.args.count (stayer c.args.ack) c.loop-i-test.false)
