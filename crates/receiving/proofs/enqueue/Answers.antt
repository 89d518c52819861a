use mathlib.Core.Path.{sym, ◌∙◌}
use native.Mathlib.Omega.{arith}
use Rattle.receiving.proofs.Later.{kept_carrying, kept-queued, queue-many, queue_long, enters, joins_carrying, joins_queue}
use Rattle.receiving.proofs.enqueue.Goals as goal
use Rattle.receiving.proofs.enqueue.Goals.{then-not-find+else-s+else-s-used, else-not-find}

pub returns-then-s : goal.returns-then-s
returns-then-s c = queue-many c.requires (sym (c.find.ensures c.args.queue.now) ∙ c.if-not-find.true) c.if-s.true c.fail.ensures

pub returns-then-s-used : goal.returns-then-s-used
returns-then-s-used c =
    queue_long c.requires (sym (c.find.ensures c.args.queue.now) ∙ c.if-not-find.true) c.if-s.false (omega (arith, c.used.ensures, c.if-s-used.true)) c.fail-then-s-used.ensures

pub insert-r-requires : goal.insert-r-requires
insert-r-requires c = enters c.requires (sym (c.find.ensures c.args.queue.now) ∙ c.if-not-find.true) c.if-s.false (omega (arith, c.used.ensures, c.if-s-used.false))

pub carry-requires : goal.carry-requires
carry-requires c =
    elim c.if-not-find.branch [
      | then-not-find+else-s+else-s-used w ↦
          rw (w.queue-is, w.r-is)
          (joins_carrying c.requires (sym (c.find.ensures c.args.queue.now) ∙ w.if-not-find.true) w.if-s.false (omega (arith, w.used.ensures, w.if-s-used.false)) w.insert-r.ensures c.request.ensures c.request.auto.list)
      | else-not-find w ↦ rw (w.queue-is, w.r-is) (kept_carrying c.requires c.request.ensures c.request.auto.list)
    ]

pub returns : goal.returns
returns c =
    elim c.if-not-find.branch [
      | then-not-find+else-s+else-s-used w ↦
          joins_queue c.requires (sym (c.find.ensures c.args.queue.now) ∙ w.if-not-find.true) w.if-s.false (omega (arith, w.used.ensures, w.if-s-used.false)) w.insert-r.ensures c.request.ensures
          (rw (w.queue-is, w.r-is) at c.carry.ensures)
      | else-not-find w ↦ kept-queued c.requires c.request.ensures (sym (c.find.ensures c.args.queue.now) ∙ w.if-not-find.false) (rw (w.queue-is, w.r-is) at c.carry.ensures)
    ]
