use mathlib.Core.Path.{refl, ap}
use borrow.Author.Tests.{not-true, not-false}
use Rattle.peer_session.specs.View.{state_of}
use Rattle.peer_session.proofs.View.{parts}
use Rattle.session.proofs.Lengths.{not_taken}
use Rattle.setup.proofs.Lending.{refused}
use Rattle.handoffs.specs.Commands.{command_in}
use Rattle.handoffs.proofs.Commands.{plain, spent, too_long, outbox-started, vacant, holding, carries_out}
use Rattle.rules.specs.Calls.{commands}
use Rattle.rules.specs.Buffers.{taken_by, short, wrong_code, queue_reach}
use Rattle.session.specs.Promise.{lent}
use Rattle.session.proofs.Entries.{stops}
use Rattle.handoffs.proofs.channel_command.Goals as goal

pub returns-in-Err : goal.returns-in-Err
unfolding taken_by short wrong_code queue_reach
returns-in-Err c = λ d q lq. stops (commands c.args.restoring (command_in c.args.command)) c.args.s (lent c.args.list.now d c.args.outbound.now q) c.enters.ensures.tested c.in-Err.is c.refused.ensures refl refl (λ h. h) (λ h. lq) (λ e k t h. (spent c.args.restoring (command_in c.args.command) t h, refl))

pub returns-then-size_of-gt-MAX_HANDOFF : goal.returns-then-size_of-gt-MAX_HANDOFF
returns-then-size_of-gt-MAX_HANDOFF c = λ d q lq. refused plain c.args.s c.args.list.now d c.args.outbound.now q (λ e. c.in_default.ensures.passed.list) (λ e. c.in_default.ensures.passed.outbound) not_taken c.in_default.ensures.passed.sound c.in_default.ensures.passed.full c.in_default.ensures.passed.outbound lq c.refused-then-size_of-gt-MAX_HANDOFF.ensures (too_long c.args.restoring (command_in c.args.command) (state_of c.args.s c.args.outbound.now q) (c.in_default.ensures.passed.low refl) (rw c.size_of.ensures at c.if-size_of-gt-MAX_HANDOFF.true))

pub returns-in_default-command : goal.returns-in_default-command
returns-in_default-command c = carries_out c.args.restoring (command_in c.args.command) c.args.s c.args.list.now c.args.outbound.now c.in_default.ensures.passed.list c.in_default.ensures.passed.outbound c.in_default.ensures.passed.sound c.in_default.ensures.passed.full (c.in_default.ensures.passed.low refl) (rw c.size_of.ensures at c.if-size_of-gt-MAX_HANDOFF.false) c.starting-r.ensures (ap command_in c.in_default-command.is) (c.no_command.ensures c.args.outbound.now (outbox-started c.args.s c.args.restoring c.starting-r.ensures ((parts c.args.s c.in_default.ensures.passed.sound c.in_default.ensures.passed.full).unacked c.args.outbound.now c.in_default.ensures.passed.outbound)))

pub hand_off-requires : goal.hand_off-requires
hand_off-requires c = (c.in_default.ensures.passed.list, vacant c.args.s c.args.restoring c.starting-r.ensures (record { exact = (parts c.args.s c.in_default.ensures.passed.sound c.in_default.ensures.passed.full).unacked c.args.outbound.now c.in_default.ensures.passed.outbound; low = c.in_default.ensures.passed.low refl }) (not-true _ c.if-not-s.true) (rw (c.size_of.ensures, c.in-Some.is) at c.if-size_of-gt-MAX_HANDOFF.false))

pub returns-then-not-s : goal.returns-then-not-s
returns-then-not-s c = carries_out c.args.restoring (command_in c.args.command) c.args.s c.args.list.now c.args.outbound.now c.in_default.ensures.passed.list c.in_default.ensures.passed.outbound c.in_default.ensures.passed.sound c.in_default.ensures.passed.full (c.in_default.ensures.passed.low refl) (rw c.size_of.ensures at c.if-size_of-gt-MAX_HANDOFF.false) c.starting-r.ensures (ap command_in c.in-Some.is) (c.hand_off.ensures c.args.restoring)

pub pending-requires : goal.pending-requires
pending-requires c = (c.in_default.ensures.passed.list, holding c.args.s c.args.restoring c.starting-r.ensures c.args.outbound.now c.in_default.ensures.passed.sound c.in_default.ensures.passed.full c.in_default.ensures.passed.outbound (not-false _ c.if-not-s.false))

pub returns : goal.returns
returns c = carries_out c.args.restoring (command_in c.args.command) c.args.s c.args.list.now c.args.outbound.now c.in_default.ensures.passed.list c.in_default.ensures.passed.outbound c.in_default.ensures.passed.sound c.in_default.ensures.passed.full (c.in_default.ensures.passed.low refl) (rw c.size_of.ensures at c.if-size_of-gt-MAX_HANDOFF.false) c.starting-r.ensures (ap command_in c.in-Some.is) c.pending.ensures
