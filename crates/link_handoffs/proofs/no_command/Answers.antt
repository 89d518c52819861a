use Rattle.link_handoffs.proofs.Steps.{no_command, no_handoff, without_command}
use Rattle.link_handoffs.proofs.no_command.Goals as goal

pub returns-then-not-restoring : goal.returns-then-not-restoring
returns-then-not-restoring c = λ o ex. no_command c.args.words.now c.args.halves.now c.args.bytes.now c.args.clock.now c.args.list.now o ex c.args.restoring (c.if-not-restoring.true) c.done.ensures

pub returns-then-bytes-ne0 : goal.returns-then-bytes-ne0
returns-then-bytes-ne0 c = λ o ex. without_command c.args.words.now c.args.halves.now c.args.bytes.now c.args.clock.now c.args.list.now o ex c.args.restoring (c.if-not-restoring.false) c.if-bytes-ne0.true c.refusal.ensures

pub returns : goal.returns
returns c = λ o ex. no_handoff c.args.words.now c.args.halves.now c.args.bytes.now c.args.clock.now c.args.list.now o ex c.args.restoring c.if-bytes-ne0.false c.done-2.ensures
