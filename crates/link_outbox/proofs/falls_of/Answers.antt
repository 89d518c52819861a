use native.Mathlib.Omega.{arith}
use mathlib.Core.Path.{◌∙◌}
use lib.Dec.{leb}
use Rattle.parts.proofs.Flags.{as_few}
use Prim.Native.Nat.{◌-◌}
use Rattle.parts.specs.Parts.{at, unacked_at}
use Rattle.link_outbox.proofs.Sounds.{falls_more, falls-end, fall_is}
use Rattle.link_outbox.proofs.falls_of.Goals as goal

pub loop-i-preserved : goal.loop-i-preserved
loop-i-preserved c =
    let l = c.loop-i in
    let a = c.args in (
      omega arith,
      omega arith,
      omega arith,
      omega (arith, c.from-sum.ensures, as_few (leb (at a.halves.now l.i) (at a.halves.now (l.i - 1)))),
      λ b. falls_more a.halves.now b l.i a.count l.sum c.from-sum.result _ l.invariant.0 c.loop-i-test.true (c.from-sum.ensures ∙ fall_is (at a.halves.now (l.i - 1)) (at a.halves.now l.i)) (l.invariant.4 b),
    )

pub returns : goal.returns
returns c = λ b. omega (arith, c.loop-i.invariant.4 b, falls-end (unacked_at c.args.halves.now b) c.loop-i.i c.args.count (at c.args.halves.now (c.loop-i.i - 1)) c.loop-i-test.false)
