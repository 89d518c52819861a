use Rattle.handoffs.proofs.Steps.{no_command, no_handoff, without_command}
use Rattle.handoffs.proofs.no_command.Goals as goal

pub returns-then-not-restoring : goal.returns-then-not-restoring
returns-then-not-restoring c = λ o ex. no_command c.args.s c.args.list.now o ex c.args.restoring (c.if-not-restoring.true) c.done.ensures

pub returns-then-s : goal.returns-then-s
returns-then-s c = λ o ex. without_command c.args.s c.args.list.now o ex c.args.restoring (c.if-not-restoring.false) c.if-s.true c.refused.ensures

pub returns : goal.returns
returns c = λ o ex. no_handoff c.args.s c.args.list.now o ex c.args.restoring c.if-s.false c.done-2.ensures
