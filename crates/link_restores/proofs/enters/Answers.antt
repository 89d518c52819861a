use mathlib.Core.Path.{sym, ◌∙◌}
use Rattle.parts.specs.Parts.{parts, opened_of}
use Rattle.link_restores.proofs.Restores.{short-outbound, short-messages, bad_code, unsound, bad_record, long-handoff, late}
use Rattle.restores.specs.Restored.{given_if}
use Rattle.link_restores.proofs.enters.Goals as goal

pub returns-then-outbound-lt-OUTBOUND_BYTES : goal.returns-then-outbound-lt-OUTBOUND_BYTES
returns-then-outbound-lt-OUTBOUND_BYTES c = λ t. short-outbound c.args.«record».reliable c.args.«record».numbers.now c.args.«record».lengths.now c.args.«record».bodies.now (given_if c.args.given) (parts c.args.words.now c.args.halves.now c.args.bytes.now t) c.if-outbound-lt-OUTBOUND_BYTES.true

pub returns-then-short_record : goal.returns-then-short_record
returns-then-short_record c = λ t. short-messages c.args.«record».reliable c.args.«record».numbers.now c.args.«record».lengths.now c.args.«record».bodies.now (given_if c.args.given) (parts c.args.words.now c.args.halves.now c.args.bytes.now t) (sym c.short_record.ensures ∙ c.if-short_record.true)

pub returns-then-record : goal.returns-then-record
returns-then-record c = λ t. bad_code c.args.«record».reliable c.args.«record».numbers.now c.args.«record».lengths.now c.args.«record».bodies.now (given_if c.args.given) (parts c.args.words.now c.args.halves.now c.args.bytes.now t) c.if-outbound-lt-OUTBOUND_BYTES.false (sym c.short_record.ensures ∙ c.if-short_record.false) c.if-record.true

pub returns-then-not-sound : goal.returns-then-not-sound
returns-then-not-sound c = λ t. unsound c.args.«record».reliable c.args.«record».numbers.now c.args.«record».lengths.now c.args.«record».bodies.now (given_if c.args.given) (parts c.args.words.now c.args.halves.now c.args.bytes.now t) c.if-outbound-lt-OUTBOUND_BYTES.false (sym c.short_record.ensures ∙ c.if-short_record.false) c.if-record.false (sym (c.sound.ensures t).is ∙ c.if-not-sound.true)

pub returns-then-not-good_record : goal.returns-then-not-good_record
returns-then-not-good_record c = λ t. bad_record c.args.«record».reliable c.args.«record».numbers.now c.args.«record».lengths.now c.args.«record».bodies.now (given_if c.args.given) (parts c.args.words.now c.args.halves.now c.args.bytes.now t) c.if-outbound-lt-OUTBOUND_BYTES.false (sym c.short_record.ensures ∙ c.if-short_record.false) c.if-record.false (sym (c.sound.ensures t).is ∙ c.if-not-sound.false) (c.sound.ensures t).full (sym (c.good_record.ensures c.args.«record».bodies.now (sym c.short_record.ensures ∙ c.if-short_record.false)) ∙ c.if-not-good_record.true)

pub returns-then-size_of-gt-MAX_HANDOFF : goal.returns-then-size_of-gt-MAX_HANDOFF
returns-then-size_of-gt-MAX_HANDOFF c = λ t. long-handoff c.args.«record».reliable c.args.«record».numbers.now c.args.«record».lengths.now c.args.«record».bodies.now (given_if c.args.given) (parts c.args.words.now c.args.halves.now c.args.bytes.now t) c.if-outbound-lt-OUTBOUND_BYTES.false (sym c.short_record.ensures ∙ c.if-short_record.false) c.if-record.false (sym (c.sound.ensures t).is ∙ c.if-not-sound.false) (c.sound.ensures t).full (sym (c.good_record.ensures c.args.«record».bodies.now (sym c.short_record.ensures ∙ c.if-short_record.false)) ∙ c.if-not-good_record.false) (rw c.size_of.ensures at c.if-size_of-gt-MAX_HANDOFF.true)

pub returns-then-too_late : goal.returns-then-too_late
unfolding opened_of
returns-then-too_late c = λ t. late c.args.«record».reliable c.args.«record».numbers.now c.args.«record».lengths.now c.args.«record».bodies.now (given_if c.args.given) (parts c.args.words.now c.args.halves.now c.args.bytes.now t) c.if-outbound-lt-OUTBOUND_BYTES.false (sym c.short_record.ensures ∙ c.if-short_record.false) c.if-record.false (sym (c.sound.ensures t).is ∙ c.if-not-sound.false) (c.sound.ensures t).full (sym (c.good_record.ensures c.args.«record».bodies.now (sym c.short_record.ensures ∙ c.if-short_record.false)) ∙ c.if-not-good_record.false) (rw c.size_of.ensures at c.if-size_of-gt-MAX_HANDOFF.false) (sym c.if-too_late.true ∙ c.too_late.ensures)

pub returns : goal.returns
unfolding opened_of
returns c = λ t. record { outbound = c.if-outbound-lt-OUTBOUND_BYTES.false; long = sym c.short_record.ensures ∙ c.if-short_record.false; known = c.if-record.false; sound = sym (c.sound.ensures t).is ∙ c.if-not-sound.false; full = (c.sound.ensures t).full; good = sym (c.good_record.ensures c.args.«record».bodies.now (sym c.short_record.ensures ∙ c.if-short_record.false)) ∙ c.if-not-good_record.false; small = rw c.size_of.ensures at c.if-size_of-gt-MAX_HANDOFF.false; soon = sym c.if-too_late.false ∙ c.too_late.ensures }
