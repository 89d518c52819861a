use Rattle.link_checks.proofs.Checks.{judged_long, judged_far, judged_last, judged_full, judged_new, judged_full_again, judged_again}
use Rattle.link_checks.proofs.check.Goals as goal

pub returns-then-words-len : goal.returns-then-words-len
returns-then-words-len c =
    judged_long c.args.number c.args.len c.args.words.now c.if-words-len.true

pub returns-then-words-number : goal.returns-then-words-number
returns-then-words-number c =
    judged_far c.args.number c.args.len c.args.words.now c.if-words-len.false c.if-remote-number.true c.if-words-number.true

pub returns-then-number-gt-LAST_REMOTE : goal.returns-then-number-gt-LAST_REMOTE
returns-then-number-gt-LAST_REMOTE c =
    judged_last c.args.number c.args.len c.args.words.now c.if-words-len.false c.if-remote-number.true c.if-words-number.false c.if-number-gt-LAST_REMOTE.true

pub acks_full-requires : goal.acks_full-requires
acks_full-requires c = c.requires

pub returns-then-acks_full : goal.returns-then-acks_full
returns-then-acks_full c =
    judged_full c.args.number c.args.len c.args.words.now c.if-words-len.false c.if-remote-number.true c.if-words-number.false c.if-number-gt-LAST_REMOTE.false c.acks_full.ensures c.if-acks_full.true

pub returns-then-remote-number : goal.returns-then-remote-number
returns-then-remote-number c =
    judged_new c.args.number c.args.len c.args.words.now c.if-words-len.false c.if-remote-number.true c.if-words-number.false c.if-number-gt-LAST_REMOTE.false c.acks_full.ensures c.if-acks_full.false

pub acks_full-requires-2 : goal.acks_full-requires-2
acks_full-requires-2 c = c.requires

pub returns-then-acks_full-2 : goal.returns-then-acks_full-2
returns-then-acks_full-2 c =
    judged_full_again c.args.number c.args.len c.args.words.now c.if-words-len.false c.if-remote-number.false c.acks_full-2.ensures c.if-acks_full-2.true

pub returns : goal.returns
returns c =
    judged_again c.args.number c.args.len c.args.words.now c.if-words-len.false c.if-remote-number.false c.acks_full-2.ensures c.if-acks_full-2.false
