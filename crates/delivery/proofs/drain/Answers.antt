use mathlib.Core.Path.{refl}
use native.Mathlib.Omega.{arith}
use Rattle.delivery.proofs.Drains.{turns_none, turns_more, ready_for, lying, reaches, next_small, on-small, out_unavailable, out_end, out_later, out_undeliverable, out_refused}
use Rattle.delivery.proofs.drain.Goals as goal
use Rattle.delivery.proofs.drain.Goals.{else-drain-test, then-drain-test+then-not-available, then-drain-test+else-not-available+then-u-step, then-drain-test+else-not-available+else-u-step+then-not-deliverable}

pub drain-init : goal.drain-init
drain-init c = record { turns = turns_none _ _ _ _ _ _ _ _ c.requires c.start-start.ensures; taken = refl }

pub overflow_add-step : goal.overflow_add-step
overflow_add-step c = omega (arith, next_small c.drain.invariant.turns c.drain-test.true)

pub part-requires : goal.part-requires
part-requires c =
    let r = reaches c.drain.invariant.turns c.drain-test.true in
    (omega arith, omega arith)

pub deliver-requires : goal.deliver-requires
deliver-requires c = ready_for c.drain.invariant.turns c.drain-test.true c.part.ensures

pub returns-in-Err : goal.returns-in-Err
returns-in-Err c =
    let v = c.drain.invariant.turns in
    let l = c.drain-test.true in
    rw c.leave.ensures (out_refused v l c.if-u-step.false c.if-not-available.ensures c.if-not-deliverable.ensures (lying v l c.part.ensures c.in-Err.ensures))

pub overflow_add-start : goal.overflow_add-start
overflow_add-start c = omega (arith, on-small c.drain.invariant.turns c.drain-test.true)

pub drain-preserved : goal.drain-preserved
drain-preserved c =
    let v = c.drain.invariant.turns in
    let l = c.drain-test.true in
    record {
      turns =
          turns_more v l c.if-u-step.false c.if-not-available.ensures c.if-not-deliverable.ensures (lying v l c.part.ensures c.in-Ok.ensures)
          c.deliver.auto.list c.deliver.auto.delivery;
      taken = refl;
    }

pub returns : goal.returns
returns c =
    let v = c.drain.invariant.turns in
    rw (c.leave-2.ensures, c.drain.invariant.taken) (elim c.drain-test.branch [
      | else-drain-test w ↦ out_end v w.drain-test.false
      | then-drain-test+then-not-available w ↦ out_unavailable v w.if-not-available.ensures
      | then-drain-test+else-not-available+then-u-step w ↦ out_later v w.drain-test.true w.if-u-step.true
      | then-drain-test+else-not-available+else-u-step+then-not-deliverable w ↦
          out_undeliverable v w.drain-test.true w.if-u-step.false w.if-not-deliverable.ensures
    ])
