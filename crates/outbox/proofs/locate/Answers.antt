use Rattle.std.proofs.Common.{take, arith, sym, ◌∙◌}
use Rattle.outbox.proofs.Places.{total-later, place_here, place-later, place_none}
use Rattle.outbox.proofs.locate.Goals as goal

pub returns-then-from-number : goal.returns-then-from-number
returns-then-from-number c =
    let o = c.args.o in
    place_here (take o.count o.records) c.loop-u.u-index c.args.number c.loop-u.start c.loop-u-test.true (sym c.from.ensures ∙ c.if-from-number.true) ∙ c.loop-u.invariant.1

pub loop-u-preserved : goal.loop-u-preserved
loop-u-preserved c =
    let o = c.args.o in (
      omega (arith, total-later (take o.count o.records) c.loop-u.u-index c.args.number c.loop-u.start c.loop-u-test.true),
      place-later (take o.count o.records) c.loop-u.u-index c.args.number c.loop-u.start c.loop-u-test.true (λ e. c.if-from-number.false (c.from.ensures ∙ e)) ∙ c.loop-u.invariant.1,
    )

pub returns : goal.returns
returns c =
    let o = c.args.o in
    place_none (take o.count o.records) c.loop-u.u-index c.args.number c.loop-u.start c.loop-u-test.false ∙ c.loop-u.invariant.1
