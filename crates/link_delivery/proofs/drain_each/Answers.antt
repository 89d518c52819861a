use mathlib.Core.Path.{refl}
use native.Mathlib.Omega.{arith}
use Rattle.delivery.proofs.Drains.{next_small, out_empty, out_unavailable}
use Rattle.link_delivery.proofs.Turns.{summing, turns_in, ends_in, later_in, reaches_in, on_in, ready_body, undeliverable_in, refused_in, more_in}
use Rattle.link_delivery.proofs.drain_each.Goals as goal
use Rattle.link_delivery.proofs.drain_each.Goals.{then-not-available-via-then-not-available, then-not-available-via-else-not-available+then-number-step, then-not-available-via-else-not-available+else-number-step+then-not-deliverable}

pub start-start-requires : goal.start-start-requires
start-start-requires c = summing c.args.words.now c.args.halves.now c.args.bytes.now c.requires

pub loop-i-init : goal.loop-i-init
loop-i-init c = turns_in c.args.words.now c.args.halves.now c.args.bytes.now c.requires c.args.status c.start-start.ensures

pub overflow_add-step : goal.overflow_add-step
overflow_add-step c = omega (arith, next_small c.loop-i.invariant.turns c.loop-i-test.true)

pub returns-then-not-available : goal.returns-then-not-available
returns-then-not-available c =
    let v = c.loop-i.invariant in
    let l = c.loop-i-test.true in
    ends_in v
    (elim c.then-not-available.branch [
      | then-not-available-via-then-not-available w ↦ out_unavailable v.turns w.if-not-available.ensures
      | then-not-available-via-else-not-available+then-number-step w ↦ later_in v l w.if-number-step.true
      | then-not-available-via-else-not-available+else-number-step+then-not-deliverable w ↦ undeliverable_in v l w.if-number-step.false w.if-not-deliverable.ensures
    ])
    c.leave.ensures

pub part-body-requires : goal.part-body-requires
part-body-requires c =
    let r = reaches_in c.loop-i.invariant c.loop-i-test.true refl in
    (omega arith, omega arith)

pub deliver-requires : goal.deliver-requires
deliver-requires c = ready_body c.loop-i.invariant c.loop-i-test.true refl c.part-body.ensures

pub returns-in-Err : goal.returns-in-Err
returns-in-Err c =
    let v = c.loop-i.invariant in
    ends_in v
    (refused_in v c.loop-i-test.true c.if-number-step.false refl c.if-not-available.ensures c.if-not-deliverable.ensures c.part-body.ensures c.in-Err.ensures)
    c.leave-in-Err.ensures

pub overflow_add-start : goal.overflow_add-start
overflow_add-start c = omega (arith, on_in c.loop-i.invariant c.loop-i-test.true refl)

pub loop-i-preserved : goal.loop-i-preserved
loop-i-preserved c =
    more_in c.loop-i.invariant c.loop-i-test.true c.if-number-step.false refl c.if-not-available.ensures c.if-not-deliverable.ensures c.part-body.ensures c.in-Ok.ensures
    c.deliver.auto.list c.deliver.auto.delivery

pub returns : goal.returns
returns c = ends_in c.loop-i.invariant (out_empty c.loop-i.invariant.turns c.loop-i-test.false) c.leave-2.ensures
