use borrow.Author.Tests.{eq-eqb}
use Rattle.handoffs.proofs.Unacked.{to_none, to_some}
use Rattle.handoffs.proofs.unacked_to.Goals as goal

pub returns-then-o-ne0 : goal.returns-then-o-ne0
returns-then-o-ne0 c = λ s. rw c.from.ensures (to_some c.args.number c.args.o s c.requires.0 c.requires.1 c.if-o-ne0.true)

pub returns-else-o-ne0 : goal.returns-else-o-ne0
returns-else-o-ne0 c = λ s. rw (eq-eqb c.args.o.count 0 c.if-o-ne0.false) (to_none c.args.number c.args.o s c.if-o-ne0.false)
