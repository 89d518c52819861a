use Rattle.link_checks.proofs.Checks.{lies, filled-few, filled-waits, filled-queued, filled-new, filled-again}
use Rattle.link_checks.proofs.acks_full.Goals as goal

pub returns-then-waiting-queued-lt-MAX_WAITING_AND_QUEUED : goal.returns-then-waiting-queued-lt-MAX_WAITING_AND_QUEUED
returns-then-waiting-queued-lt-MAX_WAITING_AND_QUEUED c =
    filled-few c.args.number c.args.words.now c.requires c.if-waiting-queued-lt-MAX_WAITING_AND_QUEUED.true

pub has-requires : goal.has-requires
has-requires c =
    lies c.args.number c.args.words.now c.requires

pub returns-then-has : goal.returns-then-has
returns-then-has c =
    filled-waits c.args.number c.args.words.now c.requires c.if-waiting-queued-lt-MAX_WAITING_AND_QUEUED.false c.has.ensures c.if-has.true

pub find-requires : goal.find-requires
find-requires c = c.requires.few

pub returns-then-find : goal.returns-then-find
returns-then-find c =
    filled-queued c.args.number c.args.words.now c.requires c.if-waiting-queued-lt-MAX_WAITING_AND_QUEUED.false c.has.ensures c.if-has.false c.find.ensures c.if-find.true

pub returns-then-words-number : goal.returns-then-words-number
returns-then-words-number c =
    filled-new c.args.number c.args.words.now c.requires c.if-waiting-queued-lt-MAX_WAITING_AND_QUEUED.false c.has.ensures c.if-has.false c.find.ensures c.if-find.false c.if-words-number.true

pub returns : goal.returns
returns c =
    filled-again c.args.number c.args.words.now c.requires c.if-waiting-queued-lt-MAX_WAITING_AND_QUEUED.false c.has.ensures c.if-has.false c.find.ensures c.if-find.false c.if-words-number.false
