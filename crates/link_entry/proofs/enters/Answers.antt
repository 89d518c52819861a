use native.Mathlib.Omega.{arith}
use mathlib.Core.Path.{sym, ◌∙◌}
use mathlib.Core.Bool.{true≢false}
use Rattle.parts.specs.Parts.{opened_of}
use Rattle.link_sound.proofs.Sounds.{full}
use Rattle.link_entry.proofs.Entered.{list_short, delivery_short, outbound_short, queue_short, code_wrong, unsound, spent, passes, admits}
use Rattle.link_entry.proofs.enters.Goals as goal
use Rattle.link_entry.proofs.enters.Goals.{then-list-lt-EVENT_WORDS-via-then-list-lt-EVENT_WORDS, then-list-lt-EVENT_WORDS-via-else-list-lt-EVENT_WORDS+then-delivery-lt-DELIVERY_BYTES, then-outbound-lt-OUTBOUND_BYTES-via-then-outbound-lt-OUTBOUND_BYTES, then-outbound-lt-OUTBOUND_BYTES-via-else-outbound-lt-OUTBOUND_BYTES+then-queue-lt-QUEUE_BYTES, else-raises-via-then-raises+else-halves-ge-GENERATION_LIMIT, else-raises-via-else-raises}

pub returns-then-list-lt-EVENT_WORDS-clause-tested : goal.returns-then-list-lt-EVENT_WORDS-clause-tested
returns-then-list-lt-EVENT_WORDS-clause-tested c = λ t.
    let f = full c.args.words.now c.args.halves.now c.args.bytes.now (record { words = omega arith; bytes = omega arith }) t in
    elim c.then-list-lt-EVENT_WORDS.branch [
      | then-list-lt-EVENT_WORDS-via-then-list-lt-EVENT_WORDS w ↦ list_short f w.if-list-lt-EVENT_WORDS.true
      | then-list-lt-EVENT_WORDS-via-else-list-lt-EVENT_WORDS+then-delivery-lt-DELIVERY_BYTES w ↦ delivery_short f w.if-delivery-lt-DELIVERY_BYTES.true
    ]

pub returns-then-outbound-lt-OUTBOUND_BYTES-clause-tested : goal.returns-then-outbound-lt-OUTBOUND_BYTES-clause-tested
returns-then-outbound-lt-OUTBOUND_BYTES-clause-tested c = λ t.
    let f = full c.args.words.now c.args.halves.now c.args.bytes.now (record { words = omega arith; bytes = omega arith }) t in
    elim c.then-outbound-lt-OUTBOUND_BYTES.branch [
      | then-outbound-lt-OUTBOUND_BYTES-via-then-outbound-lt-OUTBOUND_BYTES w ↦ outbound_short f w.if-outbound-lt-OUTBOUND_BYTES.true
      | then-outbound-lt-OUTBOUND_BYTES-via-else-outbound-lt-OUTBOUND_BYTES+then-queue-lt-QUEUE_BYTES w ↦ queue_short f w.if-queue-lt-QUEUE_BYTES.true
    ]

pub returns-then-wrong-clause-tested : goal.returns-then-wrong-clause-tested
returns-then-wrong-clause-tested c = λ t.
    code_wrong c.if-list-lt-EVENT_WORDS.false c.if-delivery-lt-DELIVERY_BYTES.false c.if-outbound-lt-OUTBOUND_BYTES.false c.if-queue-lt-QUEUE_BYTES.false
    (full c.args.words.now c.args.halves.now c.args.bytes.now (record { words = omega arith; bytes = omega arith }) t) c.if-wrong.true

pub returns-then-not-sound-clause-tested : goal.returns-then-not-sound-clause-tested
returns-then-not-sound-clause-tested c = λ t.
    unsound c.if-list-lt-EVENT_WORDS.false c.if-delivery-lt-DELIVERY_BYTES.false c.if-outbound-lt-OUTBOUND_BYTES.false c.if-queue-lt-QUEUE_BYTES.false c.if-wrong.false
    (rw c.if-not-sound.true at (c.sound.ensures t))

pub returns-then-halves-ge-GENERATION_LIMIT-clause-tested : goal.returns-then-halves-ge-GENERATION_LIMIT-clause-tested
unfolding opened_of
returns-then-halves-ge-GENERATION_LIMIT-clause-tested c = λ t.
    spent c.if-list-lt-EVENT_WORDS.false c.if-delivery-lt-DELIVERY_BYTES.false c.if-outbound-lt-OUTBOUND_BYTES.false c.if-queue-lt-QUEUE_BYTES.false c.if-wrong.false
    (rw c.if-not-sound.false at (c.sound.ensures t)) c.if-raises.true c.if-halves-ge-GENERATION_LIMIT.true

pub returns-clause-tested : goal.returns-clause-tested
unfolding opened_of
returns-clause-tested c = λ t.
    passes c.if-list-lt-EVENT_WORDS.false c.if-delivery-lt-DELIVERY_BYTES.false c.if-outbound-lt-OUTBOUND_BYTES.false c.if-queue-lt-QUEUE_BYTES.false c.if-wrong.false
    (rw c.if-not-sound.false at (c.sound.ensures t)) (λ e. elim c.else-raises.branch [
      | else-raises-via-then-raises+else-halves-ge-GENERATION_LIMIT w ↦ w.if-halves-ge-GENERATION_LIMIT.false
      | else-raises-via-else-raises w ↦ absurd (true≢false (sym e ∙ w.if-raises.false))
    ])

pub returns-clause-passed : goal.returns-clause-passed
unfolding opened_of
returns-clause-passed c = λ t.
    admits c.if-list-lt-EVENT_WORDS.false c.if-delivery-lt-DELIVERY_BYTES.false c.if-outbound-lt-OUTBOUND_BYTES.false c.if-queue-lt-QUEUE_BYTES.false c.if-wrong.false
    (rw c.if-not-sound.false at (c.sound.ensures t)) (λ e. elim c.else-raises.branch [
      | else-raises-via-then-raises+else-halves-ge-GENERATION_LIMIT w ↦ w.if-halves-ge-GENERATION_LIMIT.false
      | else-raises-via-else-raises w ↦ absurd (true≢false (sym e ∙ w.if-raises.false))
    ])
