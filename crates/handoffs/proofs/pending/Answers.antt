use Rattle.handoffs.specs.Commands.{lent_command}
use mathlib.Core.Path.{sym, ◌∙◌}
use Rattle.handoffs.proofs.Validates.{not_restoring, id-differs, body-differs, own-handoff}
use Rattle.handoffs.proofs.pending.Goals as goal

pub returns-then-not-restoring : goal.returns-then-not-restoring
returns-then-not-restoring c = not_restoring c.args.s c.args.list.now c.args.outbound.now c.requires.1 (lent_command c.args.c) c.args.restoring (c.if-not-restoring.true) c.refused.ensures

pub returns-then-s-c : goal.returns-then-s-c
returns-then-s-c c = id-differs c.args.s c.args.list.now c.args.outbound.now c.requires.1 (lent_command c.args.c) c.args.restoring (c.if-not-restoring.false) c.if-s-c.true c.refused-then-s-c.ensures

pub returns-then-not-same_bytes : goal.returns-then-not-same_bytes
returns-then-not-same_bytes c = body-differs c.args.s c.args.list.now c.args.outbound.now c.requires.1 (lent_command c.args.c) c.args.restoring (c.if-not-restoring.false) c.if-s-c.false (sym c.same_bytes.ensures ∙ c.if-not-same_bytes.true) c.refused-then-not-same_bytes.ensures

pub returns : goal.returns
returns c = own-handoff c.args.s c.args.list.now c.args.outbound.now c.requires.1 (lent_command c.args.c) c.args.restoring (c.if-not-restoring.false) c.if-s-c.false (sym c.same_bytes.ensures ∙ c.if-not-same_bytes.false) c.validate.ensures
