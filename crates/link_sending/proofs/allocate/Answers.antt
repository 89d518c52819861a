use native.Mathlib.Omega.{arith}
use mathlib.Core.Path.{◌∙◌}
use Rattle.peer_session.proofs.Sends.{spent, many, long, joins}
use Rattle.link_outbox.proofs.Sounds.{bounded}
use Rattle.link_outbox.proofs.Sounds.{ends_at}
use Rattle.link_sending.proofs.Sends.{refused_in, joined_in}
use Rattle.link_sending.proofs.allocate.Goals as goal

pub returns-then-words-gt-LAST_MESSAGE : goal.returns-then-words-gt-LAST_MESSAGE
returns-then-words-gt-LAST_MESSAGE c = refused_in (spent _ _ _ c.requires c.if-words-gt-LAST_MESSAGE.true)

pub returns-then-count-ge-MAX_UNACKED : goal.returns-then-count-ge-MAX_UNACKED
returns-then-count-ge-MAX_UNACKED c = refused_in (many _ _ _ c.requires c.if-words-gt-LAST_MESSAGE.false c.if-count-ge-MAX_UNACKED.true)

pub used-at-requires : goal.used-at-requires
used-at-requires c = bounded c.args.words.now c.args.halves.now c.args.bytes.now c.requires.few c.requires.small

pub overflow_sub-at : goal.overflow_sub-at
overflow_sub-at c = omega (arith, c.used-at.ensures c.args.bytes.now, ends_at c.args.words.now c.args.halves.now c.args.bytes.now c.requires.few, c.requires.small)

pub returns-then-at-body : goal.returns-then-at-body
returns-then-at-body c = refused_in (long _ _ _ c.requires c.if-words-gt-LAST_MESSAGE.false (omega (arith, c.used-at.ensures c.args.bytes.now, ends_at c.args.words.now c.args.halves.now c.args.bytes.now c.requires.few, c.if-at-body.true, c.requires.small)))

pub append-requires : goal.append-requires
append-requires c = record { exact = c.requires; next = c.if-words-gt-LAST_MESSAGE.false; few = c.if-count-ge-MAX_UNACKED.false; used = c.used-at.ensures c.args.bytes.now ∙ ends_at c.args.words.now c.args.halves.now c.args.bytes.now c.requires.few; short = omega (arith, c.used-at.ensures c.args.bytes.now, ends_at c.args.words.now c.args.halves.now c.args.bytes.now c.requires.few, c.if-at-body.false, c.requires.small) }

pub returns : goal.returns
returns c = joined_in c.append.ensures (joins _ _ _ c.requires c.if-words-gt-LAST_MESSAGE.false c.if-count-ge-MAX_UNACKED.false (omega (arith, c.used-at.ensures c.args.bytes.now, ends_at c.args.words.now c.args.halves.now c.args.bytes.now c.requires.few, c.if-at-body.false, c.requires.small)) _ _ c.append.ensures.appended)
