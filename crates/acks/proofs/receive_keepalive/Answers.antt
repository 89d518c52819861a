use native.Mathlib.Omega.{arith}
use Rattle.peer_session.proofs.View.{parts}
use Rattle.acks.proofs.Keepalives.{told}
use Rattle.rules.specs.Calls.{gets_keepalive}
use Rattle.rules.specs.Buffers.{taken_by, short, wrong_code}
use Rattle.session.specs.Promise.{lent}
use Rattle.session.proofs.Entries.{stops}
use Rattle.session.proofs.Lengths.{not_taken}
use Rattle.rules.specs.declared.Answer.TheVariants.{Refused}
use mathlib.Core.Path.{refl}
use Rattle.acks.proofs.receive_keepalive.Goals as goal

pub returns-in-Err : goal.returns-in-Err
unfolding taken_by short wrong_code
returns-in-Err c = λ d o q lo lq. stops gets_keepalive c.args.s (lent c.args.list.now d o q) {r = record { session = c.args.s; answer = Refused c.in-Err.x; events = 0 }} c.enters.ensures.tested c.in-Err.is (record { session = refl; answer = refl; events = refl }) refl refl (λ h. lo) (λ h. lq) not_taken

pub list_all-n-requires : goal.list_all-n-requires
list_all-n-requires c = ((parts c.args.s c.in_default.ensures.passed.sound c.in_default.ensures.passed.full).retry.few, omega (arith, c.in_default.ensures.passed.list, (parts c.args.s c.in_default.ensures.passed.sound c.in_default.ensures.passed.full).retry.few))

pub returns : goal.returns
returns c = told c.args.s c.args.list.now c.in_default.ensures.passed.list c.in_default.ensures.passed.sound c.in_default.ensures.passed.full c.emit.ensures c.list_all-n.ensures.listed
