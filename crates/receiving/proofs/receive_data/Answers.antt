use Rattle.rules.specs.Calls.{gets_data}
use Rattle.delivery.specs.Turns.{frame_of}
use Rattle.rules.specs.Buffers.{taken_by, short, wrong_code}
use Rattle.session.specs.Promise.{lent}
use Rattle.session.proofs.Entries.{stops}
use Rattle.receiving.proofs.Checks.{spent, spent_reach}
use borrow.Author.Tests.{ltb-false}
use mathlib.Core.Path.{refl}
use Rattle.receiving.proofs.receive_data.Goals as goal

pub returns-in-Err : goal.returns-in-Err
unfolding taken_by short wrong_code
returns-in-Err c = stops (gets_data c.args.status (frame_of c.args.number c.args.kind c.args.body.now)) c.args.s (lent c.args.list.now c.args.delivery.now c.args.outbound.now c.args.queue.now) c.enters.ensures.tested c.in-Err.is c.refused.ensures refl refl (λ h. h) (λ h. h) (λ e k t h. (spent c.args.status (frame_of c.args.number c.args.kind c.args.body.now) t (ltb-false _ _ k) h, spent_reach c.args.status (frame_of c.args.number c.args.kind c.args.body.now) t (ltb-false _ _ k) h))
