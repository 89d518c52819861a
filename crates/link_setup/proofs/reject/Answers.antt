use mathlib.Core.Path.{refl}
use Rattle.rules.specs.Calls.{rejects}
use Rattle.rules.specs.Buffers.{taken_by, short, wrong_code, queue_reach}
use Rattle.session.specs.Promise.{lent}
use Rattle.session.proofs.Entries.{stops}
use Rattle.setup.proofs.Accepts.{reject_spent}
use Rattle.parts.specs.Parts.{parts, opened_of}
use Rattle.parts.proofs.Drives.{refuses}
use Rattle.link_sending.proofs.Sends.{ready_to_send}
use Rattle.link_setup.proofs.reject.Goals as goal

pub send_reject-requires : goal.send_reject-requires
send_reject-requires c = ready_to_send (c.in-Ok.ensures.passed c.args.clock.now)

pub returns-in-Err : goal.returns-in-Err
unfolding taken_by short wrong_code queue_reach
returns-in-Err c =
    let p = parts c.args.words.now c.args.halves.now c.args.bytes.now c.args.clock.now in
    refuses p _ c.refusal.ensures (λ r u d q lq. stops rejects (opened_of p) (lent c.args.list.now d c.args.outbound.now q) (c.enters-entered.ensures.tested c.args.clock.now) c.in-Err.is u refl refl (λ h. h) (λ h. lq) (λ e k t h. (reject_spent t h, refl)))
