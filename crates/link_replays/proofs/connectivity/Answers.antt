-- `link_replays::connectivity` meets its contract, by what the event's code is read as. Assumes nothing.
use mathlib.Core.Path.{refl, sym, ◌∙◌}
use Rattle.rules.specs.Calls.{connects}
use Rattle.rules.specs.Buffers.{taken_by, short}
use Rattle.session.specs.Promise.{lent}
use Rattle.session.proofs.Lengths.{not_taken}
use Rattle.session.proofs.Entries.{stops, stopped_at, passed_at}
use Rattle.replays.proofs.Connects.{read-code}
use Rattle.parts.specs.Parts.{parts, opened_of}
use Rattle.parts.proofs.Drives.{refuses}
use Rattle.link_replays.proofs.Connects.{ready_for}
use Rattle.link_replays.proofs.connectivity.Goals as goal

pub returns-in-Err : goal.returns-in-Err
unfolding taken_by short
returns-in-Err c =
    let p = parts c.args.words.now c.args.halves.now c.args.bytes.now c.args.clock.now in
    let e = c.enters-entered.ensures.tested c.args.clock.now in
    refuses p _ c.refusal.ensures (λ r u d o q lo lq.
    stops (connects c.args.event c.args.time c.args.force) (opened_of p) (lent c.args.list.now d o q) e
    (stopped_at c.try_from-read.result c.is_err-wrong.ensures.value e (sym c.and.ensures ∙ c.in-Err.is)) u refl
    (read-code _ _ _ c.try_from-read.result c.try_from-read.ensures ∙ sym c.is_err-wrong.ensures.value) (λ h. lo) (λ h. lq) not_taken)

pub goes-requires : goal.goes-requires
goes-requires c =
    let t = c.args.clock.now in
    ready_for (passed_at c.try_from-read.result c.is_err-wrong.ensures.value (c.enters-entered.ensures.tested t) (c.enters-entered.ensures.passed t) (sym c.and.ensures ∙ c.in-Ok.is)).0
