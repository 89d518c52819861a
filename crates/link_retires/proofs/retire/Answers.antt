use mathlib.Core.Path.{refl}
use Rattle.rules.specs.Calls.{retires}
use Rattle.rules.specs.Buffers.{taken_by, short, wrong_code}
use Rattle.session.specs.Promise.{lent}
use Rattle.session.proofs.Entries.{stops}
use Rattle.session.proofs.Lengths.{not_taken}
use Rattle.parts.specs.Parts.{parts, opened_of}
use Rattle.parts.proofs.Drives.{refuses}
use Rattle.link_entry.proofs.Entered.{checked}
use Rattle.link_retires.proofs.Retires.{keeps, left-exact, forgets}
use Rattle.link_retires.proofs.retire.Goals as goal

pub returns-in-Err : goal.returns-in-Err
unfolding taken_by short wrong_code
returns-in-Err c =
    let p = parts c.args.words.now c.args.halves.now c.args.bytes.now c.args.clock.now in
    refuses p _ c.refusal.ensures (λ r u l d. stops (retires c.args.retain) (opened_of p) (lent l d c.args.outbound.now c.args.queue.now) (c.enters.ensures.tested c.args.clock.now) c.in-Err.is u refl refl (λ h. h) (λ h. h) not_taken)

pub retired-requires : goal.retired-requires
retired-requires c = record { checked = λ t. checked (c.in_default.ensures.passed t); room = (c.in_default.ensures.passed c.args.clock.now).queue }

pub returns-then-kept : goal.returns-then-kept
returns-then-kept c = let a = c.in_default.ensures.passed c.args.clock.now in keeps c.args.retain c.args.words.now c.args.halves.now c.args.bytes.now c.args.clock.now c.args.outbound.now c.args.queue.now a.outbound a.queue (checked a) c.retired.ensures c.retains-kept.ensures c.if-kept.true c.flag.ensures

pub forget-requires : goal.forget-requires
forget-requires c = let a = c.in_default.ensures.passed c.args.clock.now in left-exact c.args.retain c.args.words.now c.args.halves.now c.args.bytes.now c.args.clock.now c.args.outbound.now c.args.queue.now a.outbound a.queue (checked a) c.retired.ensures

pub returns : goal.returns
returns c = let a = c.in_default.ensures.passed c.args.clock.now in forgets c.args.retain c.args.words.now c.args.halves.now c.args.bytes.now c.args.clock.now c.args.outbound.now c.args.queue.now a.outbound a.queue (checked a) c.retired.ensures c.retains-kept.ensures c.if-kept.false c.forget.ensures c.flag-2.ensures
