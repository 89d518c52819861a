use Rattle.link_handoffs.proofs.Validates.{not_restoring, id-differs, body-differs, own-handoff}
use Rattle.link_handoffs.proofs.pending.Goals as goal

pub returns-then-not-restoring : goal.returns-then-not-restoring
returns-then-not-restoring c = not_restoring c.args.words.now c.args.halves.now c.args.bytes.now c.args.clock.now c.args.list.now c.args.outbound.now c.requires.1 c.args.c.id c.args.c.body.now c.args.restoring (c.if-not-restoring.true) c.refusal.ensures

pub returns-then-words-c : goal.returns-then-words-c
returns-then-words-c c = id-differs c.args.words.now c.args.halves.now c.args.bytes.now c.args.clock.now c.args.list.now c.args.outbound.now c.requires.1 c.args.c.id c.args.c.body.now c.args.restoring (c.if-not-restoring.false) c.if-words-c.true c.refusal-then-words-c.ensures

pub returns-then-not-same_body : goal.returns-then-not-same_body
returns-then-not-same_body c = body-differs c.args.words.now c.args.halves.now c.args.bytes.now c.args.clock.now c.args.list.now c.args.outbound.now c.requires.1 c.args.c.id c.args.c.body.now c.args.restoring (c.if-not-restoring.false) c.if-words-c.false c.same_body.ensures (c.if-not-same_body.true) c.refusal-then-not-same_body.ensures

pub returns : goal.returns
returns c = own-handoff c.args.words.now c.args.halves.now c.args.bytes.now c.args.clock.now c.args.list.now c.args.outbound.now c.requires.1 c.args.c.id c.args.c.body.now c.args.restoring (c.if-not-restoring.false) c.if-words-c.false c.same_body.ensures (c.if-not-same_body.false) c.validate.ensures
