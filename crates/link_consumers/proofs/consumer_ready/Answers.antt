use borrow.Author.Tests.{ltb-false}
use native.Mathlib.Omega.{arith}
use mathlib.Core.Path.{refl}
use Rattle.rules.specs.Calls.{is_ready}
use Rattle.rules.specs.Buffers.{taken_by, short, wrong_code}
use Rattle.session.specs.Promise.{lent}
use Rattle.session.proofs.Entries.{stops}
use Rattle.consumers.proofs.Consumers.{ready_spent, ready-reach}
use Rattle.parts.specs.Parts.{parts, opened_of}
use Rattle.parts.proofs.Drives.{refuses}
use Rattle.link_consumers.proofs.consumer_ready.Goals as goal

pub returns-in-Err : goal.returns-in-Err
unfolding taken_by short wrong_code
returns-in-Err c =
    let p = parts c.args.words.now c.args.halves.now c.args.bytes.now c.args.clock.now in
    refuses p _ c.refusal.ensures (λ r u. stops (is_ready c.args.status c.args.mode) (opened_of p) (lent c.args.list.now c.args.delivery.now c.args.outbound.now c.args.queue.now) (c.enters.ensures.tested c.args.clock.now) c.in-Err.is u refl refl (λ h. h) (λ h. h) (λ e k t h. (ready_spent c.args.status c.args.mode t (ltb-false _ _ k) h, ready-reach c.args.status c.args.mode t)))

pub overflow_cast-mode : goal.overflow_cast-mode
overflow_cast-mode c = omega (arith, ltb-false 4 c.args.mode (c.in_default.ensures.passed c.args.clock.now).known)

pub ready-requires : goal.ready-requires
ready-requires c =
    let a = c.in_default.ensures.passed c.args.clock.now in
    record {
      arrived = record { good = a.sound; full = a.full; list = a.list; delivery = a.delivery; outbound = a.outbound; queue = a.queue; low = a.low refl };
      known = ltb-false 4 c.args.mode a.known;
    }
