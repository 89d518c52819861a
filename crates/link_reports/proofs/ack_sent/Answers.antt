use mathlib.Core.Path.{sym, ◌∙◌}
use Rattle.link_reports.proofs.Reports.{ack_sent, ack_kept, ack_lost}
use Rattle.link_reports.proofs.ack_sent.Goals as goal

pub returns-then-accepted : goal.returns-then-accepted
returns-then-accepted c = λ h b l fit.
    ack_sent c.args.words.now h b l c.args.number c.args.accepted fit _ c.take_out.ensures.only c.done.ensures
    c.if-accepted.true c.take_out.ensures.holds

pub returns-then-retries_full : goal.returns-then-retries_full
returns-then-retries_full c = λ h b l fit.
    ack_lost c.args.words.now h b l c.args.number c.args.accepted fit c.if-accepted.false
    (sym c.if-retries_full.true ∙ c.retries_full.ensures) c.refusal.ensures

pub returns : goal.returns
returns c = λ h b l fit.
    ack_kept c.args.words.now h b l c.args.number c.args.accepted fit _ c.put.ensures.only c.done-2.ensures
    c.if-accepted.false (sym c.if-retries_full.false ∙ c.retries_full.ensures) c.put.ensures.holds
