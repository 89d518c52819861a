use Rattle.peer_session.proofs.View.{parts}
use Rattle.outbox.proofs.Places.{part-fits}
use Rattle.fetches.proofs.Finds.{find_sound}
use Rattle.rules.specs.Calls.{fetches}
use Rattle.rules.specs.Buffers.{taken_by, short, wrong_code}
use Rattle.session.specs.Promise.{lent}
use Rattle.session.proofs.Entries.{stops}
use Rattle.session.proofs.Lengths.{not_taken}
use Rattle.rules.specs.declared.Answer.TheVariants.{Refused}
use mathlib.Core.Path.{refl}
use Rattle.fetches.proofs.find.Goals as goal

pub returns-in-Err-clause-answer : goal.returns-in-Err-clause-answer
unfolding taken_by short wrong_code
returns-in-Err-clause-answer c = λ l d q lq. stops (fetches c.args.number) c.args.s (lent l d c.args.outbound.now q) {r = record { session = c.args.s; answer = Refused c.in-Err.x; events = 0 }} c.enters.ensures.tested c.in-Err.is (record { session = refl; answer = refl; events = refl }) refl refl (λ h. h) (λ h. lq) not_taken

pub locate-requires : goal.locate-requires
locate-requires c = let x = (parts c.args.s c.in_default.ensures.passed.sound c.in_default.ensures.passed.full).unacked c.args.outbound.now c.in_default.ensures.passed.outbound in (x.few, x.small)

pub returns-in-Some-clause-answer : goal.returns-in-Some-clause-answer
returns-in-Some-clause-answer c = find_sound c.args.number c.args.s c.args.outbound.now c.in_default.ensures.passed.outbound c.in_default.ensures.passed.sound c.in_default.ensures.passed.full c.locate.ensures c.in-Some.is

pub returns-in-None-clause-answer : goal.returns-in-None-clause-answer
returns-in-None-clause-answer c = find_sound c.args.number c.args.s c.args.outbound.now c.in_default.ensures.passed.outbound c.in_default.ensures.passed.sound c.in_default.ensures.passed.full c.locate.ensures c.in-None.is

pub returns-in-Some-clause-within : goal.returns-in-Some-clause-within
returns-in-Some-clause-within c = part-fits c.args.number c.args.s.outbox c.args.outbound.now c.locate.ensures ((parts c.args.s c.in_default.ensures.passed.sound c.in_default.ensures.passed.full).unacked c.args.outbound.now c.in_default.ensures.passed.outbound) c.in-Some.place c.in-Some.is
