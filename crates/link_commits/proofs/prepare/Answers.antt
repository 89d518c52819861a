-- `link_commits::prepare` meets its contract, by whether the session is sound. Assumes nothing.
use mathlib.Core.Path.{◌≡◌, sym, ◌∙◌}
use mathlib.Core.Bool.{true}
use native.Mathlib.Omega.{arith}
use Rattle.peer_session.specs.Sound.{sound_of}
use Rattle.parts.specs.Parts.{parts, opened_of}
use Rattle.link_commits.proofs.Completes.{prepare_unsound, first, prepare_sound}
use Rattle.link_commits.proofs.prepare.Goals as goal

pub returns-then-not-sound : goal.returns-then-not-sound
returns-then-not-sound c =
    prepare_unsound c.args.words.now c.args.halves.now c.args.bytes.now c.args.clock.now (sym (c.sound.ensures c.args.clock.now).is ∙ c.if-not-sound.true) c.refusal.ensures

pub overflow_sub-commit : goal.overflow_sub-commit
overflow_sub-commit c = let is-sound : sound_of (opened_of (parts c.args.words.now c.args.halves.now c.args.bytes.now c.args.clock.now)) ≡ true = sym (c.sound.ensures c.args.clock.now).is ∙ c.if-not-sound.false in omega (arith, first c.args.words.now c.args.halves.now c.args.bytes.now c.args.clock.now (is-sound) (c.sound.ensures c.args.clock.now).full)

pub returns : goal.returns
returns c = let is-sound : sound_of (opened_of (parts c.args.words.now c.args.halves.now c.args.bytes.now c.args.clock.now)) ≡ true = sym (c.sound.ensures c.args.clock.now).is ∙ c.if-not-sound.false in prepare_sound c.args.words.now c.args.halves.now c.args.bytes.now c.args.clock.now (is-sound) (c.sound.ensures c.args.clock.now).full c.answer_of.ensures
