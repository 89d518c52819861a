use Rattle.delivery.proofs.Changes.{proposal_other, proposal_stands, proposal_spent, proposal_again}
use Rattle.delivery.proofs.receive_proposal.Goals as goal

pub returns-then-t : goal.returns-then-t
returns-then-t c = proposal_other c.args.t c.if-t.true

pub returns-then-t-2 : goal.returns-then-t-2
returns-then-t-2 c = proposal_stands c.args.t c.if-t.false c.if-t-2.true

pub returns-then-t-gt-LAST_MESSAGE : goal.returns-then-t-gt-LAST_MESSAGE
returns-then-t-gt-LAST_MESSAGE c = proposal_spent c.args.t c.if-t.false c.if-t-2.false c.if-t-gt-LAST_MESSAGE.true

pub returns : goal.returns
returns c = proposal_again c.args.t c.if-t.false c.if-t-2.false c.if-t-gt-LAST_MESSAGE.false
