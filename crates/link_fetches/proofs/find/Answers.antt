-- `link_fetches::find` meets its contract, answer by answer. Assumes nothing.
use mathlib.Core.Path.{refl}
use Rattle.rules.specs.declared.Answer.TheVariants.{Refused}
use Rattle.rules.specs.Calls.{fetches}
use Rattle.rules.specs.Buffers.{taken_by, short, wrong_code}
use Rattle.session.specs.Promise.{lent}
use Rattle.session.proofs.Entries.{stops}
use Rattle.session.proofs.Lengths.{not_taken}
use Rattle.parts.specs.Parts.{parts, opened_of}
use Rattle.parts.proofs.Drives.{answers}
use Rattle.link_fetches.proofs.Finds.{may_locate, find_sound}
use Rattle.link_fetches.proofs.find.Goals as goal

pub returns-in-Err : goal.returns-in-Err
unfolding taken_by short wrong_code
returns-in-Err c =
    let p = parts c.args.words.now c.args.halves.now c.args.bytes.now c.args.clock.now in
    answers p (Refused c.in-Err.x) c.refusal.ensures (λ l d q lq. stops (fetches c.args.number) (opened_of p) (lent l d c.args.outbound.now q) {r = record { session = opened_of p; answer = Refused c.in-Err.x; events = 0 }} (c.enters.ensures.tested c.args.clock.now) c.in-Err.is (record { session = refl; answer = refl; events = refl }) refl refl (λ h. h) (λ h. lq) not_taken)

pub locate-requires : goal.locate-requires
locate-requires c =
    let a = c.in_default.ensures.passed c.args.clock.now in
    may_locate c.args.words.now c.args.halves.now c.args.bytes.now c.args.clock.now a.sound a.full

pub returns : goal.returns
returns c =
    let a = c.in_default.ensures.passed c.args.clock.now in
    find_sound c.args.words.now c.args.halves.now c.args.bytes.now c.args.clock.now c.args.outbound.now c.args.number a.outbound a.sound a.full c.locate.result (c.locate.ensures c.args.bytes.now) c.place_answer.ensures
