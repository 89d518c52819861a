use Rattle.link_handoffs.proofs.Validates.{unsent, still_unacked, acked, not_carried, carried}
use Rattle.link_handoffs.proofs.validate.Goals as goal

pub returns-then-bytes-eq0 : goal.returns-then-bytes-eq0
returns-then-bytes-eq0 c = unsent c.args.words.now c.args.halves.now c.args.bytes.now c.args.clock.now c.args.list.now c.args.outbound.now c.requires.1 c.if-bytes-ne0.true c.if-bytes-eq0.true c.refusal.ensures

pub returns-then-unacked_to : goal.returns-then-unacked_to
returns-then-unacked_to c = still_unacked c.args.words.now c.args.halves.now c.args.bytes.now c.args.clock.now c.args.list.now c.args.outbound.now c.requires.1 c.unacked_to.ensures c.if-bytes-ne0.true c.if-bytes-eq0.false c.if-unacked_to.true c.refusal-then-unacked_to.ensures

pub returns-then-bytes-ne0 : goal.returns-then-bytes-ne0
returns-then-bytes-ne0 c = acked c.args.words.now c.args.halves.now c.args.bytes.now c.args.clock.now c.args.list.now c.args.outbound.now c.requires.1 c.unacked_to.ensures c.if-bytes-ne0.true c.if-bytes-eq0.false c.if-unacked_to.false c.done.ensures

pub returns-then-not-carried : goal.returns-then-not-carried
returns-then-not-carried c = not_carried c.args.words.now c.args.halves.now c.args.bytes.now c.args.clock.now c.args.list.now c.args.outbound.now c.requires.1 c.carried.ensures c.if-bytes-ne0.false (c.if-not-carried.true) c.refusal-then-not-carried.ensures

pub returns : goal.returns
returns c = carried c.args.words.now c.args.halves.now c.args.bytes.now c.args.clock.now c.args.list.now c.args.outbound.now c.requires.1 c.carried.ensures c.if-bytes-ne0.false (c.if-not-carried.false) c.done-2.ensures
