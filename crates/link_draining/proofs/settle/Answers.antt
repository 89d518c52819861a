use native.Mathlib.Omega.{arith}
use Rattle.link_draining.proofs.Outboxes.{in_both, room, in_sent, in_dropped, in_none}
use Rattle.link_draining.proofs.settle.Goals as goal

pub overflow_add-words : goal.overflow_add-words
overflow_add-words c = omega (arith, c.requires.next c.if-t.true)

pub returns-then-t-2 : goal.returns-then-t-2
returns-then-t-2 c = in_both c.args.t c.args.words.now c.args.halves.now c.args.bytes.now c.args.outbound.now c.requires (omega arith) c.if-t.true c.if-t-2.true

pub send_reject-requires : goal.send_reject-requires
send_reject-requires c = room c.args.t c.args.words.now c.args.halves.now c.args.bytes.now c.args.outbound.now c.requires c.if-t.true

pub returns-then-t : goal.returns-then-t
returns-then-t c = in_sent c.args.t c.args.words.now c.args.halves.now c.args.bytes.now c.args.outbound.now c.requires c.if-t.true c.if-t-2.false c.send_reject.ensures

pub returns-then-t-3 : goal.returns-then-t-3
returns-then-t-3 c = in_dropped c.args.t c.args.words.now c.args.halves.now c.args.bytes.now c.args.outbound.now c.requires c.if-t.false c.if-t-3.true c.discard.ensures

pub returns : goal.returns
returns c = in_none c.args.t c.args.words.now c.args.halves.now c.args.bytes.now c.args.outbound.now c.requires c.if-t.false c.if-t-3.false
