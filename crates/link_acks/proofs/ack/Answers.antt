use mathlib.Core.Path.{refl, sym, ◌∙◌}
use Rattle.rules.specs.Calls.{gets_ack}
use Rattle.rules.specs.Buffers.{taken_by, short, wrong_code, queue_reach}
use Rattle.session.specs.Promise.{lent}
use Rattle.session.proofs.Entries.{stops}
use Rattle.acks.proofs.Acks.{spent}
use Rattle.parts.specs.Parts.{parts, opened_of}
use Rattle.parts.proofs.Drives.{refuses}
use Rattle.link_sending.proofs.Sends.{ready_to_send}
use Rattle.link_acks.proofs.Acks.{failing, broke}
use Rattle.link_acks.proofs.ack.Goals as goal

pub beyond-requires : goal.beyond-requires
beyond-requires c =
    let a = c.in-Ok.ensures.passed c.args.clock.now in
    failing c.args.words.now c.args.halves.now c.args.bytes.now c.args.clock.now c.args.list.now c.args.outbound.now c.args.number (ready_to_send a) c.args.queue.now a.queue

pub returns-then-out_of_range : goal.returns-then-out_of_range
returns-then-out_of_range c =
    let a = c.in-Ok.ensures.passed c.args.clock.now in
    broke c.args.words.now c.args.halves.now c.args.bytes.now c.args.clock.now c.args.list.now c.args.outbound.now c.args.number (ready_to_send a) (sym c.out_of_range.ensures ∙ c.if-out_of_range.true) c.args.queue.now a.queue c.beyond.ensures

pub acknowledged-requires : goal.acknowledged-requires
acknowledged-requires c = (ready_to_send (c.in-Ok.ensures.passed c.args.clock.now), sym c.out_of_range.ensures ∙ c.if-out_of_range.false)

pub returns-in-Err : goal.returns-in-Err
unfolding taken_by short wrong_code queue_reach
returns-in-Err c =
    let p = parts c.args.words.now c.args.halves.now c.args.bytes.now c.args.clock.now in
    refuses p _ c.refusal.ensures (λ r u d. stops (gets_ack c.args.number) (opened_of p) (lent c.args.list.now d c.args.outbound.now c.args.queue.now) (c.enters-entered.ensures.tested c.args.clock.now) c.in-Err.is u refl refl (λ h. h) (λ h. h) (λ e k t h. (spent c.args.number t h, refl)))

pub returns-else-out_of_range : goal.returns-else-out_of_range
returns-else-out_of_range c = c.acknowledged.ensures c.args.queue.now (c.in-Ok.ensures.passed c.args.clock.now).queue
