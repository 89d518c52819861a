use borrow.Author.Tests.{ltb-false}
use native.Mathlib.Omega.{arith}
use mathlib.Core.Path.{refl}
use Rattle.rules.specs.Calls.{gets_data}
use Rattle.rules.specs.Buffers.{taken_by, short, wrong_code}
use Rattle.session.specs.Promise.{lent}
use Rattle.session.proofs.Entries.{stops}
use Rattle.delivery.specs.Turns.{frame_of}
use Rattle.receiving.proofs.Checks.{spent, spent_reach}
use Rattle.parts.specs.Parts.{parts, opened_of}
use Rattle.parts.proofs.Drives.{refuses}
use Rattle.link_receiving.proofs.data.Goals as goal

pub returns-in-Err : goal.returns-in-Err
unfolding taken_by short wrong_code
returns-in-Err c =
    let p = parts c.args.words.now c.args.halves.now c.args.bytes.now c.args.clock.now in
    let f = frame_of c.args.number c.args.kind c.args.body.now in
    refuses p _ c.refusal.ensures (λ r u. stops (gets_data c.args.status f) (opened_of p) (lent c.args.list.now c.args.delivery.now c.args.outbound.now c.args.queue.now) (c.enters.ensures.tested c.args.clock.now) c.in-Err.is u refl refl (λ h. h) (λ h. h) (λ e k t h. (spent c.args.status f t (ltb-false _ _ k) h, spent_reach c.args.status f t (ltb-false _ _ k) h)))

pub overflow_cast-f : goal.overflow_cast-f
overflow_cast-f c = omega (arith, ltb-false 2 c.args.kind (c.in_default.ensures.passed c.args.clock.now).known)

pub receive-requires : goal.receive-requires
receive-requires c =
    let a = c.in_default.ensures.passed c.args.clock.now in
    record {
      arrived = record { good = a.sound; full = a.full; list = a.list; delivery = a.delivery; outbound = a.outbound; queue = a.queue; low = a.low refl };
      kind = ltb-false 2 c.args.kind a.known;
    }
