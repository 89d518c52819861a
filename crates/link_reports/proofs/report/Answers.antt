use mathlib.Core.Path.{refl, sym, ◌∙◌}
use Rattle.rules.specs.Calls.{reports}
use Rattle.rules.specs.Buffers.{taken_by, short}
use Rattle.session.specs.Promise.{lent}
use Rattle.session.proofs.Lengths.{not_taken}
use Rattle.session.proofs.Entries.{stops, stopped_at, passed_at}
use Rattle.acks.proofs.Reports.{read-code}
use Rattle.parts.specs.Parts.{parts, opened_of}
use Rattle.parts.proofs.Drives.{refuses}
use Rattle.link_reports.proofs.Reports.{fits}
use Rattle.link_reports.proofs.report.Goals as goal

pub returns-in-Err : goal.returns-in-Err
unfolding taken_by short
returns-in-Err c =
    let p = parts c.args.words.now c.args.halves.now c.args.bytes.now c.args.clock.now in
    let e = c.enters-entered.ensures.tested c.args.clock.now in
    refuses p _ c.refusal.ensures (λ r u d o q lo lq.
    stops (reports c.args.what c.args.number c.args.accepted) (opened_of p) (lent c.args.list.now d o q) e
    (stopped_at c.try_from-read.result c.is_err-wrong.ensures.value e (sym c.and.ensures ∙ c.in-Err.is)) u refl
    (read-code _ _ _ c.try_from-read.result c.try_from-read.ensures ∙ sym c.is_err-wrong.ensures.value) (λ h. lo) (λ h. lq) not_taken)

pub reported-requires : goal.reported-requires
reported-requires c =
    fits (λ t. (passed_at c.try_from-read.result c.is_err-wrong.ensures.value (c.enters-entered.ensures.tested t) (c.enters-entered.ensures.passed t) (sym c.and.ensures ∙ c.in-Ok.is)).0)

pub returns-in-Ok : goal.returns-in-Ok
returns-in-Ok c =
    let t = c.args.clock.now in
    let is = rw (passed_at c.try_from-read.result c.is_err-wrong.ensures.value (c.enters-entered.ensures.tested t) (c.enters-entered.ensures.passed t) (sym c.and.ensures ∙ c.in-Ok.is)).1 at c.try_from-read.ensures in
    rw is (c.reported.ensures t)
