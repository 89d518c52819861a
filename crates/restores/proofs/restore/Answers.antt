use mathlib.Core.Path.{sym, ◌∙◌}
use Rattle.restores.proofs.Restores.{store-short, record_short, code_wrong, session_bad, record_bad, handoff-long, restored_late, restores_it, taking, handoff-taken}
use Rattle.restores.proofs.Lent.{and-as-given}
use Rattle.restores.specs.Restored.{given_if}
use Rattle.restores.proofs.restore.Goals as goal

pub returns-then-outbound-lt-OUTBOUND_BYTES : goal.returns-then-outbound-lt-OUTBOUND_BYTES
returns-then-outbound-lt-OUTBOUND_BYTES c = and-as-given c.args.given _ _ _ _ _ _ _ _ (store-short c.args.«record».reliable c.args.«record».numbers.now c.args.«record».lengths.now c.args.«record».bodies.now (given_if c.args.given) c.args.s c.args.outbound.now c.refused.ensures c.if-outbound-lt-OUTBOUND_BYTES.true)

pub returns-then-short_record : goal.returns-then-short_record
returns-then-short_record c = and-as-given c.args.given _ _ _ _ _ _ _ _ (record_short c.args.«record».reliable c.args.«record».numbers.now c.args.«record».lengths.now c.args.«record».bodies.now (given_if c.args.given) c.args.s c.args.outbound.now c.refused-then-short_record.ensures (sym c.short_record.ensures ∙ c.if-short_record.true))

pub returns-then-record : goal.returns-then-record
returns-then-record c = and-as-given c.args.given _ _ _ _ _ _ _ _ (code_wrong c.args.«record».reliable c.args.«record».numbers.now c.args.«record».lengths.now c.args.«record».bodies.now (given_if c.args.given) c.args.s c.args.outbound.now c.if-outbound-lt-OUTBOUND_BYTES.false (sym c.short_record.ensures ∙ c.if-short_record.false) c.refused-then-record.ensures c.if-record.true)

pub returns-then-not-sound : goal.returns-then-not-sound
returns-then-not-sound c = and-as-given c.args.given _ _ _ _ _ _ _ _ (session_bad c.args.«record».reliable c.args.«record».numbers.now c.args.«record».lengths.now c.args.«record».bodies.now (given_if c.args.given) c.args.s c.args.outbound.now c.if-outbound-lt-OUTBOUND_BYTES.false (sym c.short_record.ensures ∙ c.if-short_record.false) c.if-record.false c.refused-then-not-sound.ensures (sym c.sound.ensures.is ∙ c.if-not-sound.true))

pub returns-then-not-good_record : goal.returns-then-not-good_record
returns-then-not-good_record c = and-as-given c.args.given _ _ _ _ _ _ _ _ (record_bad c.args.«record».reliable c.args.«record».numbers.now c.args.«record».lengths.now c.args.«record».bodies.now (given_if c.args.given) c.args.s c.args.outbound.now c.if-outbound-lt-OUTBOUND_BYTES.false (sym c.short_record.ensures ∙ c.if-short_record.false) c.if-record.false (sym c.sound.ensures.is ∙ c.if-not-sound.false) c.sound.ensures.full c.refused-then-not-good_record.ensures (sym (c.good_record.ensures c.args.«record».bodies.now (sym c.short_record.ensures ∙ c.if-short_record.false)) ∙ c.if-not-good_record.true))

pub returns-then-size_of-gt-MAX_HANDOFF : goal.returns-then-size_of-gt-MAX_HANDOFF
returns-then-size_of-gt-MAX_HANDOFF c = and-as-given c.args.given _ _ _ _ _ _ _ _ (handoff-long c.args.«record».reliable c.args.«record».numbers.now c.args.«record».lengths.now c.args.«record».bodies.now (given_if c.args.given) c.args.s c.args.outbound.now c.if-outbound-lt-OUTBOUND_BYTES.false (sym c.short_record.ensures ∙ c.if-short_record.false) c.if-record.false (sym c.sound.ensures.is ∙ c.if-not-sound.false) c.sound.ensures.full (sym (c.good_record.ensures c.args.«record».bodies.now (sym c.short_record.ensures ∙ c.if-short_record.false)) ∙ c.if-not-good_record.false) c.refused-then-size_of-gt-MAX_HANDOFF.ensures (rw c.size_of.ensures at c.if-size_of-gt-MAX_HANDOFF.true))

pub returns-then-too_late : goal.returns-then-too_late
returns-then-too_late c = and-as-given c.args.given _ _ _ _ _ _ _ _ (restored_late c.args.«record».reliable c.args.«record».numbers.now c.args.«record».lengths.now c.args.«record».bodies.now (given_if c.args.given) c.args.s c.args.outbound.now c.if-outbound-lt-OUTBOUND_BYTES.false (sym c.short_record.ensures ∙ c.if-short_record.false) c.if-record.false (sym c.sound.ensures.is ∙ c.if-not-sound.false) c.sound.ensures.full (sym (c.good_record.ensures c.args.«record».bodies.now (sym c.short_record.ensures ∙ c.if-short_record.false)) ∙ c.if-not-good_record.false) (rw c.size_of.ensures at c.if-size_of-gt-MAX_HANDOFF.false) c.refused-then-too_late.ensures (sym c.if-too_late.true ∙ c.too_late.ensures))

pub taken-r-requires : goal.taken-r-requires
taken-r-requires c = taking c.args.«record».reliable c.args.«record».numbers.now c.args.«record».lengths.now c.args.«record».bodies.now (given_if c.args.given) c.args.s c.args.outbound.now c.if-outbound-lt-OUTBOUND_BYTES.false (sym c.short_record.ensures ∙ c.if-short_record.false) c.if-record.false (sym c.sound.ensures.is ∙ c.if-not-sound.false) c.sound.ensures.full (sym (c.good_record.ensures c.args.«record».bodies.now (sym c.short_record.ensures ∙ c.if-short_record.false)) ∙ c.if-not-good_record.false)

pub restore_terminal-requires : goal.restore_terminal-requires
restore_terminal-requires c = (handoff-taken c.args.s c.args.outbound.now (sym c.sound.ensures.is ∙ c.if-not-sound.false) c.sound.ensures.full c.if-outbound-lt-OUTBOUND_BYTES.false c.taken-r.result c.taken-r.ensures.handoff, (rw c.size_of.ensures at c.if-size_of-gt-MAX_HANDOFF.false))

pub returns : goal.returns
returns c = and-as-given c.args.given _ _ _ _ _ _ _ _ (restores_it c.args.«record».reliable c.args.«record».numbers.now c.args.«record».lengths.now c.args.«record».bodies.now (given_if c.args.given) c.args.s c.args.outbound.now c.if-outbound-lt-OUTBOUND_BYTES.false (sym c.short_record.ensures ∙ c.if-short_record.false) c.if-record.false (sym c.sound.ensures.is ∙ c.if-not-sound.false) c.sound.ensures.full (sym (c.good_record.ensures c.args.«record».bodies.now (sym c.short_record.ensures ∙ c.if-short_record.false)) ∙ c.if-not-good_record.false) (rw c.size_of.ensures at c.if-size_of-gt-MAX_HANDOFF.false) (sym c.if-too_late.false ∙ c.too_late.ensures) c.taken-r.ensures c.restore_terminal.ensures)
