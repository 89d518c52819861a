use mathlib.Core.Path.{refl, sym, ◌∙◌}
use mathlib.Core.Bool.{true, false}
use Rattle.rules.specs.declared.Answer.TheVariants.{Done}
use Rattle.rules.specs.Calls.{reports}
use Rattle.rules.specs.Buffers.{taken_by, short}
use Rattle.rules.proofs.Codes.{code-small, code-data, code-ack}
use Rattle.peer_session.proofs.View.{parts}
use Rattle.session.specs.Promise.{lent}
use Rattle.session.proofs.Lengths.{not_taken}
use Rattle.session.proofs.WithList.{list-answers}
use Rattle.session.proofs.Entries.{stops, stopped_at, passed_at}
use Rattle.acks.proofs.Reports.{list-alone, read-code, good-code, of_data, of_ack, reported, few-messages, may_retry}
use Rattle.acks.proofs.report.Goals as goal

pub returns-in-Err : goal.returns-in-Err
unfolding taken_by short
returns-in-Err c = λ d o q lo lq.
    stops (reports c.args.what c.args.number c.args.accepted) c.args.s (lent c.args.list.now d o q)
    c.enters.ensures.tested (stopped_at c.try_from-read.result c.is_err.ensures.value c.enters.ensures.tested (sym c.and.ensures ∙ c.in-Err.is)) c.refused.ensures refl
    (read-code _ _ _ c.try_from-read.result c.try_from-read.ensures ∙ sym c.is_err.ensures.value) (λ h. lo) (λ h. lq) not_taken

pub report_data-requires : goal.report_data-requires
report_data-requires c =
    let p = (passed_at c.try_from-read.result c.is_err.ensures.value c.enters.ensures.tested c.enters.ensures.passed (sym c.and.ensures ∙ c.in-Ok-Data.is)).0 in
    (p.list, few-messages c.args.s p.sound p.full)

pub returns-in-Ok-Data : goal.returns-in-Ok-Data
returns-in-Ok-Data c =
    let p = (passed_at c.try_from-read.result c.is_err.ensures.value c.enters.ensures.tested c.enters.ensures.passed (sym c.and.ensures ∙ c.in-Ok-Data.is)).0 in
    let is = rw (passed_at c.try_from-read.result c.is_err.ensures.value c.enters.ensures.tested c.enters.ensures.passed (sym c.and.ensures ∙ c.in-Ok-Data.is)).1 at c.try_from-read.ensures in
    reported _ _ _ (code-small c.in-Ok-Data.field-0 is) c.args.s c.args.list.now p.list p.sound p.full (of_data _ _ _ (code-small c.in-Ok-Data.field-0 is) (code-data c.in-Ok-Data.field-0 is c.in-Ok-Data.field-0-is) true c.if-accepted.true) c.report_data.ensures

pub returns-in-Ok-Data-2 : goal.returns-in-Ok-Data-2
returns-in-Ok-Data-2 c =
    let p = (passed_at c.try_from-read.result c.is_err.ensures.value c.enters.ensures.tested c.enters.ensures.passed (sym c.and.ensures ∙ c.in-Ok-Data.is)).0 in
    let is = rw (passed_at c.try_from-read.result c.is_err.ensures.value c.enters.ensures.tested c.enters.ensures.passed (sym c.and.ensures ∙ c.in-Ok-Data.is)).1 at c.try_from-read.ensures in
    list-answers (reports c.args.what c.args.number c.args.accepted) (list-alone _ _ _) c.args.s c.args.list.now p.list (good-code _ _ _ (code-small c.in-Ok-Data.field-0 is)) p.sound p.full Done (λ o q lo. of_data _ _ _ (code-small c.in-Ok-Data.field-0 is) (code-data c.in-Ok-Data.field-0 is c.in-Ok-Data.field-0-is) false c.if-accepted.false _)

pub ack_sent-requires : goal.ack_sent-requires
ack_sent-requires c =
    let p = (passed_at c.try_from-read.result c.is_err.ensures.value c.enters.ensures.tested c.enters.ensures.passed (sym c.and.ensures ∙ c.in-Ok-Ack.is)).0 in
    (parts c.args.s p.sound p.full).retry.few

pub returns-in-Ok-Ack : goal.returns-in-Ok-Ack
returns-in-Ok-Ack c =
    let p = (passed_at c.try_from-read.result c.is_err.ensures.value c.enters.ensures.tested c.enters.ensures.passed (sym c.and.ensures ∙ c.in-Ok-Ack.is)).0 in
    let is = rw (passed_at c.try_from-read.result c.is_err.ensures.value c.enters.ensures.tested c.enters.ensures.passed (sym c.and.ensures ∙ c.in-Ok-Ack.is)).1 at c.try_from-read.ensures in
    reported _ _ _ (code-small c.in-Ok-Ack.field-0 is) c.args.s c.args.list.now p.list p.sound p.full (of_ack _ _ _ (code-small c.in-Ok-Ack.field-0 is) (code-ack c.in-Ok-Ack.field-0 is c.in-Ok-Ack.field-0-is) true c.if-accepted-2.true) (c.ack_sent.ensures c.args.list.now)

pub retry_ack-requires : goal.retry_ack-requires
retry_ack-requires c =
    let p = (passed_at c.try_from-read.result c.is_err.ensures.value c.enters.ensures.tested c.enters.ensures.passed (sym c.and.ensures ∙ c.in-Ok-Ack.is)).0 in
    may_retry c.args.number c.args.s p.sound p.full

pub returns-in-Ok-Ack-2 : goal.returns-in-Ok-Ack-2
returns-in-Ok-Ack-2 c =
    let p = (passed_at c.try_from-read.result c.is_err.ensures.value c.enters.ensures.tested c.enters.ensures.passed (sym c.and.ensures ∙ c.in-Ok-Ack.is)).0 in
    let is = rw (passed_at c.try_from-read.result c.is_err.ensures.value c.enters.ensures.tested c.enters.ensures.passed (sym c.and.ensures ∙ c.in-Ok-Ack.is)).1 at c.try_from-read.ensures in
    reported _ _ _ (code-small c.in-Ok-Ack.field-0 is) c.args.s c.args.list.now p.list p.sound p.full (of_ack _ _ _ (code-small c.in-Ok-Ack.field-0 is) (code-ack c.in-Ok-Ack.field-0 is c.in-Ok-Ack.field-0-is) false c.if-accepted-2.false) (c.retry_ack.ensures c.args.list.now)
