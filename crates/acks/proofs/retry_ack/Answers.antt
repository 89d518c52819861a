use mathlib.Core.Path.{sym, ◌∙◌}
use Rattle.acks.proofs.Reports.{kept_ack, lost_ack}
use Rattle.acks.proofs.retry_ack.Goals as goal

pub returns-then-retries_full : goal.returns-then-retries_full
returns-then-retries_full c = λ l. lost_ack c.args.number c.args.s l (sym c.retries_full.ensures ∙ c.if-retries_full.true) c.refused.ensures

pub returns : goal.returns
returns c = λ l. kept_ack c.args.number c.args.s c.put-more.result l (sym c.retries_full.ensures ∙ c.if-retries_full.false) c.put-more.ensures
