use native.Mathlib.Omega.{arith}
use Rattle.peer_session.proofs.Sends.{spent, many, long, joins}
use Rattle.peer_session.proofs.allocate.Goals as goal

pub returns-then-o-gt-LAST_MESSAGE : goal.returns-then-o-gt-LAST_MESSAGE
returns-then-o-gt-LAST_MESSAGE c = spent c.args.body.now c.args.o c.args.store.now c.requires c.if-o-gt-LAST_MESSAGE.true

pub returns-then-o-ge-MAX_UNACKED : goal.returns-then-o-ge-MAX_UNACKED
returns-then-o-ge-MAX_UNACKED c = many c.args.body.now c.args.o c.args.store.now c.requires c.if-o-gt-LAST_MESSAGE.false c.if-o-ge-MAX_UNACKED.true

pub returns-then-at-body : goal.returns-then-at-body
returns-then-at-body c = long c.args.body.now c.args.o c.args.store.now c.requires c.if-o-gt-LAST_MESSAGE.false (omega (arith, c.used-at.ensures, c.if-at-body.true, c.requires.small))

pub returns : goal.returns
returns c =
    joins c.args.body.now c.args.o c.args.store.now c.requires c.if-o-gt-LAST_MESSAGE.false c.if-o-ge-MAX_UNACKED.false (omega (arith, c.used-at.ensures, c.if-at-body.false, c.requires.small))
    c.append-more.result c.append-more.new.store c.append-more.ensures
