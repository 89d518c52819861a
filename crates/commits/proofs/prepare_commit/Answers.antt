-- `commits::prepare_commit` meets its contract, by whether the session is sound. Assumes nothing.
use mathlib.Core.Path.{sym, ◌∙◌}
use native.Mathlib.Omega.{arith}
use Rattle.peer_session.proofs.View.{parts}
use Rattle.commits.proofs.Completes.{prepare_unsound, prepare_sound}
use Rattle.commits.proofs.prepare_commit.Goals as goal

pub returns-then-not-sound : goal.returns-then-not-sound
returns-then-not-sound c = prepare_unsound c.args.s (sym c.sound.ensures.is ∙ c.if-not-sound.true)

pub overflow_sub-commit : goal.overflow_sub-commit
overflow_sub-commit c = omega (arith, (parts c.args.s (sym c.sound.ensures.is ∙ c.if-not-sound.false) c.sound.ensures.full).first)

pub returns : goal.returns
returns c = prepare_sound c.args.s (sym c.sound.ensures.is ∙ c.if-not-sound.false) c.sound.ensures.full
