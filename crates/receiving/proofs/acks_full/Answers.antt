use borrow.Author.Tests.{lt-ltb}
use Rattle.peer_session.specs.View.{state_of}
use mathlib.Core.Path.{sym, ◌∙◌}
use Rattle.receiving.proofs.Checks.{full-few, full-waits, full-queued, full-new, full-again, few_of, many_of}
use Rattle.receiving.proofs.acks_full.Goals as goal

pub returns-then-s-lt-MAX_WAITING_AND_QUEUED : goal.returns-then-s-lt-MAX_WAITING_AND_QUEUED
returns-then-s-lt-MAX_WAITING_AND_QUEUED c = λ o q e. full-few c.args.number (state_of c.args.s o q) (few_of c.args.s c.requires.0 q e c.if-s-lt-MAX_WAITING_AND_QUEUED.true)

pub returns-then-has : goal.returns-then-has
returns-then-has c = λ o q e. full-waits c.args.number (state_of c.args.s o q) (many_of c.args.s c.requires.0 q e c.if-s-lt-MAX_WAITING_AND_QUEUED.false) (sym c.has.ensures ∙ c.if-has.true)

pub returns-then-find : goal.returns-then-find
returns-then-find c = λ o q e. full-queued c.args.number (state_of c.args.s o q) (many_of c.args.s c.requires.0 q e c.if-s-lt-MAX_WAITING_AND_QUEUED.false) (sym c.has.ensures ∙ c.if-has.false) (sym (c.find.ensures q) ∙ c.if-find.true)

pub returns-then-s-number : goal.returns-then-s-number
returns-then-s-number c = λ o q e. lt-ltb c.args.s.remote c.args.number c.if-s-number.true ∙ full-new c.args.number (state_of c.args.s o q) (many_of c.args.s c.requires.0 q e c.if-s-lt-MAX_WAITING_AND_QUEUED.false) (sym c.has.ensures ∙ c.if-has.false) (sym (c.find.ensures q) ∙ c.if-find.false) c.if-s-number.true

pub returns-else-s-number : goal.returns-else-s-number
returns-else-s-number c = λ o q e. full-again c.args.number (state_of c.args.s o q) (many_of c.args.s c.requires.0 q e c.if-s-lt-MAX_WAITING_AND_QUEUED.false) (sym c.has.ensures ∙ c.if-has.false) (sym (c.find.ensures q) ∙ c.if-find.false) c.if-s-number.false
