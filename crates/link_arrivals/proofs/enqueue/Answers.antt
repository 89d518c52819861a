use native.Mathlib.Omega.{arith}
use Rattle.link_arrivals.proofs.Steps.{few-later, topped-later, sums, body-short, may_fail, carrying_kept, queued_already, too_many, too_long, may_insert, carrying_joined, joined}
use Rattle.link_arrivals.proofs.enqueue.Goals as goal
use Rattle.link_arrivals.proofs.enqueue.Goals.{then-not-holds+else-words-count+else-words-end, else-not-holds}

pub holds-requires : goal.holds-requires
holds-requires c =
    topped-later c.args.words.now c.args.halves.now c.args.bytes.now c.args.clock.now c.requires

pub overflow_add-count : goal.overflow_add-count
overflow_add-count c =
    omega (arith, few-later c.args.words.now c.args.halves.now c.args.bytes.now c.args.clock.now c.requires)

pub fail-requires : goal.fail-requires
fail-requires c =
    may_fail c.args.words.now c.args.halves.now c.args.bytes.now c.args.clock.now c.requires

pub returns-then-words-count : goal.returns-then-words-count
returns-then-words-count c =
    too_many c.args.words.now c.args.halves.now c.args.bytes.now c.args.clock.now c.requires
    c.holds.ensures c.if-not-holds.true c.if-words-count.true c.fail.ensures

pub start-end-requires : goal.start-end-requires
start-end-requires c =
    sums c.args.words.now c.args.halves.now c.args.bytes.now c.args.clock.now c.requires

pub overflow_add-end : goal.overflow_add-end
overflow_add-end c =
    omega (arith, c.start-end.ensures, (sums c.args.words.now c.args.halves.now c.args.bytes.now c.args.clock.now c.requires).small, body-short c.args.words.now c.args.halves.now c.args.bytes.now c.args.clock.now c.requires)

pub fail-requires-then-words-end : goal.fail-requires-then-words-end
fail-requires-then-words-end c =
    may_fail c.args.words.now c.args.halves.now c.args.bytes.now c.args.clock.now c.requires

pub returns-then-words-end : goal.returns-then-words-end
returns-then-words-end c =
    too_long c.args.words.now c.args.halves.now c.args.bytes.now c.args.clock.now c.requires
    c.holds.ensures c.if-not-holds.true c.if-words-count.false c.start-end.ensures c.if-words-end.true c.fail-then-words-end.ensures

pub insert-requires : goal.insert-requires
insert-requires c =
    may_insert c.args.words.now c.args.halves.now c.args.bytes.now c.args.clock.now c.requires
    c.holds.ensures c.if-not-holds.true c.if-words-count.false c.start-end.ensures c.if-words-end.false

pub carry-requires : goal.carry-requires
carry-requires c =
    elim c.if-not-holds.branch [
      | then-not-holds+else-words-count+else-words-end w ↦
          rw (w.words-is, w.halves-is, w.bytes-is, w.queue-is)
          (carrying_joined c.args.words.now c.args.halves.now c.args.bytes.now c.args.clock.now c.requires
          c.holds.ensures w.if-not-holds.true w.if-words-count.false w.start-end.ensures w.if-words-end.false (omega arith) (omega arith)
          w.insert.ensures c.clock_in-c.ensures c.request.ensures c.request.auto.list)
      | else-not-holds w ↦
          rw (w.words-is, w.halves-is, w.bytes-is, w.queue-is)
          (carrying_kept c.args.words.now c.args.halves.now c.args.bytes.now c.args.clock.now c.requires
          c.clock_in-c.ensures c.request.ensures c.request.auto.list)
    ]

pub returns : goal.returns
returns c =
    elim c.if-not-holds.branch [
      | then-not-holds+else-words-count+else-words-end w ↦
          joined c.args.words.now c.args.halves.now c.args.bytes.now c.args.clock.now c.requires
          c.holds.ensures w.if-not-holds.true w.if-words-count.false w.start-end.ensures w.if-words-end.false (omega arith) (omega arith)
          w.insert.ensures c.clock_in-c.ensures c.request.ensures
          (rw (w.words-is, w.halves-is, w.bytes-is, w.queue-is) at c.carry.ensures)
      | else-not-holds w ↦
          queued_already c.args.words.now c.args.halves.now c.args.bytes.now c.args.clock.now c.requires
          c.clock_in-c.ensures c.request.ensures c.holds.ensures w.if-not-holds.false
          (rw (w.words-is, w.halves-is, w.bytes-is, w.queue-is) at c.carry.ensures)
    ]
