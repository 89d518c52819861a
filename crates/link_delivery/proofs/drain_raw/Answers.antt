use mathlib.Core.Path.{refl}
use native.Mathlib.Omega.{arith}
use Rattle.delivery.proofs.Drains.{out_empty}
use Rattle.link_delivery.proofs.Turns.{summing, later_in}
use Rattle.link_delivery.proofs.RawTurns.{raw_none, raw_next, raw_room, body_long, raw_more, raw_ends}
use Rattle.link_delivery.proofs.drain_raw.Goals as goal
use Rattle.link_delivery.proofs.drain_raw.Goals.{else-loop-i-test, then-loop-i-test+then-number-remote}

pub start-start-requires : goal.start-start-requires
start-start-requires c = summing c.args.words.now c.args.halves.now c.args.bytes.now c.requires.draining

pub loop-i-init : goal.loop-i-init
loop-i-init c = record { raw = raw_none c.args.s.turn c.args.words.now c.args.halves.now c.args.bytes.now c.requires c.start-start.ensures; whole = refl }

pub overflow_add-remote : goal.overflow_add-remote
overflow_add-remote c = omega (arith, raw_next c.loop-i.invariant.raw c.loop-i-test.true)

pub overflow_add-generation : goal.overflow_add-generation
overflow_add-generation c = omega (arith, (raw_room c.loop-i.invariant.raw c.loop-i-test.true refl).slow)

pub part-body-requires : goal.part-body-requires
part-body-requires c =
    let r = raw_room c.loop-i.invariant.raw c.loop-i-test.true refl in
    (omega (arith, r.reaches), omega (arith, r.reaches))

pub hand_over-events-requires : goal.hand_over-events-requires
hand_over-events-requires c =
    let v = c.loop-i.invariant.raw in
    let l = c.loop-i-test.true in
    let r = raw_room v l refl in
    (r.room, omega (arith, r.bytes, body_long v l refl c.part-body.ensures))

pub overflow_add-at : goal.overflow_add-at
overflow_add-at c =
    let r = raw_room c.loop-i.invariant.raw c.loop-i-test.true refl in
    omega (arith, r.bytes, c.loop-i.invariant.raw.delivery, c.well_formed, c.ranges)

pub overflow_add-start : goal.overflow_add-start
overflow_add-start c = omega (arith, (raw_room c.loop-i.invariant.raw c.loop-i-test.true refl).short)

pub loop-i-preserved : goal.loop-i-preserved
loop-i-preserved c =
    let g = c.hand_over-events in
    record {
      raw = raw_more c.loop-i.invariant.raw c.loop-i-test.true refl c.if-number-remote.false refl c.part-body.ensures g.ensures g.auto.list g.auto.delivery;
      whole = c.loop-i.invariant.whole;
    }

pub returns : goal.returns
returns c =
    let v = c.loop-i.invariant.raw in
    let y = v.turns c.args.status c.requires.there in
    raw_ends v c.requires.there c.reach-turn.ensures
    (elim c.loop-i-test.branch [
      | else-loop-i-test w ↦ rw (w.taken-is, c.loop-i.invariant.whole) (out_empty y.turns w.loop-i-test.false)
      | then-loop-i-test+then-number-remote w ↦ rw w.taken-is (later_in y w.loop-i-test.true w.if-number-remote.true)
    ])
    c.leave.ensures
