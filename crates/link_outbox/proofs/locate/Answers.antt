use Rattle.std.proofs.Common.{[], arith, refl, sym, ◌∙◌}
use Rattle.parts.specs.Parts.{at, unacked_at}
use Rattle.link_outbox.proofs.Sounds.{take-total}
use Rattle.link_outbox.proofs.Places.{later, found, passed, missing}
use Rattle.link_outbox.proofs.locate.Goals as goal

pub loop-i-init : goal.loop-i-init
loop-i-init c = λ b. (omega (arith, take-total (unacked_at c.args.halves.now b) (at c.args.words.now 1) c.requires.few, c.requires.small b), refl)

pub returns-then-from-number : goal.returns-then-from-number
returns-then-from-number c = λ b.
    found c.args.halves.now b (at c.args.words.now 1) c.loop-i.i c.args.number c.loop-i.start c.requires.few c.loop-i-test.true (sym c.from.ensures ∙ c.if-from-number.true)
    ∙ (c.loop-i.invariant b).1

pub overflow_add-start : goal.overflow_add-start
overflow_add-start c =
    omega (arith, later c.args.halves.now [] (at c.args.words.now 1) c.loop-i.i c.args.number c.loop-i.start c.requires.few c.loop-i-test.true, (c.loop-i.invariant []).0)

pub loop-i-preserved : goal.loop-i-preserved
loop-i-preserved c = λ b. (
  omega (arith, later c.args.halves.now b (at c.args.words.now 1) c.loop-i.i c.args.number c.loop-i.start c.requires.few c.loop-i-test.true, (c.loop-i.invariant b).0),
  passed c.args.halves.now b (at c.args.words.now 1) c.loop-i.i c.args.number c.loop-i.start c.requires.few c.loop-i-test.true (λ e. c.if-from-number.false (c.from.ensures ∙ e))
      ∙ (c.loop-i.invariant b).1,
)

pub returns : goal.returns
returns c = λ b.
    missing c.args.halves.now b (at c.args.words.now 1) c.loop-i.i c.args.number c.loop-i.start c.requires.few c.loop-i-test.false
    ∙ (c.loop-i.invariant b).1
