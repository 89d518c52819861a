-- `link_questions::rejection_complete` meets its contract, by the disposition. Assumes nothing.
use mathlib.Core.Path.{◌∙◌}
use borrow.Author.Tests.{ne_eqb}
use Rattle.link_questions.proofs.Asks.{is-complete, is_not_complete}
use Rattle.link_questions.proofs.rejection_complete.Goals as goal

pub returns-then-disposition_in : goal.returns-then-disposition_in
returns-then-disposition_in c = λ o q. is-complete c.args.words.now c.args.halves.now c.args.bytes.now c.args.clock.now o q c.disposition_in.ensures c.if-disposition_in.true

pub returns-else-disposition_in : goal.returns-else-disposition_in
returns-else-disposition_in c = λ o q.
    ne_eqb _ 4 c.if-disposition_in.false
    ∙ is_not_complete c.args.words.now c.args.halves.now c.args.bytes.now c.args.clock.now o q c.disposition_in.ensures c.if-disposition_in.false
