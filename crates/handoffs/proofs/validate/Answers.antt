use borrow.Author.Tests.{not-true, not-false}
use Rattle.handoffs.proofs.Validates.{unsent, still_unacked, acked, not_carried, carried}
use Rattle.handoffs.proofs.validate.Goals as goal

pub returns-then-not-s : goal.returns-then-not-s
returns-then-not-s c = unsent c.args.s c.args.list.now c.args.outbound.now c.requires.1 c.if-s.true (not-true _ c.if-not-s.true) c.refused.ensures

pub returns-then-unacked_to : goal.returns-then-unacked_to
returns-then-unacked_to c = still_unacked c.args.s c.args.list.now c.args.outbound.now c.requires.1 c.unacked_to.ensures c.if-s.true (not-false _ c.if-not-s.false) c.if-unacked_to.true c.refused-then-unacked_to.ensures

pub returns-then-s : goal.returns-then-s
returns-then-s c = acked c.args.s c.args.list.now c.args.outbound.now c.requires.1 c.unacked_to.ensures c.if-s.true (not-false _ c.if-not-s.false) c.if-unacked_to.false c.done.ensures

pub returns-then-not-carried : goal.returns-then-not-carried
returns-then-not-carried c = not_carried c.args.s c.args.list.now c.args.outbound.now c.requires.1 c.carried.ensures c.if-s.false (c.if-not-carried.true) c.refused-then-not-carried.ensures

pub returns : goal.returns
returns c = carried c.args.s c.args.list.now c.args.outbound.now c.requires.1 c.carried.ensures c.if-s.false (c.if-not-carried.false) c.done-2.ensures
