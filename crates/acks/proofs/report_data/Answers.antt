use mathlib.Core.Path.{sym, ◌∙◌}
use Rattle.acks.proofs.Reports.{other-frame, its_own_frame}
use Rattle.acks.proofs.report_data.Goals as goal

pub returns-then-not-own_frame : goal.returns-then-not-own_frame
returns-then-not-own_frame c = other-frame c.args.number c.args.s c.args.list.now c.mark_sent-sent.result c.mark_sent-sent.ensures (sym c.own_frame.ensures ∙ c.if-not-own_frame.true)

pub returns : goal.returns
returns c = its_own_frame c.args.number c.args.s c.args.list.now c.mark_sent-sent.result c.mark_sent-sent.ensures (sym c.own_frame.ensures ∙ c.if-not-own_frame.false) c.emit.ensures
