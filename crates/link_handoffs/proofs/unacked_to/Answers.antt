use borrow.Author.Tests.{eq-eqb}
use Rattle.link_handoffs.proofs.Validates.{none-unacked, first-unacked}
use Rattle.link_handoffs.proofs.unacked_to.Goals as goal

pub returns-then-words-ne0 : goal.returns-then-words-ne0
returns-then-words-ne0 c = λ b s e. first-unacked c.args.words.now c.args.halves.now b s c.args.number c.if-words-ne0.true e c.from.ensures

pub returns-else-words-ne0 : goal.returns-else-words-ne0
returns-else-words-ne0 c = λ b s e. rw (eq-eqb _ 0 c.if-words-ne0.false) (none-unacked c.args.words.now c.args.halves.now b s c.args.number c.if-words-ne0.false)
