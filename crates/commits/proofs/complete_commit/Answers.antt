-- `commits::complete_commit` meets its contract, refusal by refusal, and then by what its three steps ensure. Assumes nothing.
use mathlib.Core.Path.{◌≡◌, refl}
use mathlib.Core.Bool.{true}
use Rattle.peer_session.specs.Sound.{sound_of}
use Rattle.commits.proofs.Completes.{outbound_refused, remote_refused, may_release, completes_it}
use Rattle.rules.specs.Calls.{completes}
use Rattle.rules.specs.Buffers.{taken_by, short, wrong_code}
use Rattle.session.specs.Promise.{lent}
use Rattle.session.proofs.Entries.{stops}
use Rattle.session.proofs.Lengths.{not_taken}
use Rattle.commits.proofs.complete_commit.Goals as goal

pub returns-in-Err : goal.returns-in-Err
unfolding taken_by short wrong_code
returns-in-Err c = λ d o q lo lq. stops (completes c.args.commit c.args.persisted) c.args.s (lent c.args.list.now d o q) c.enters.ensures.tested c.in-Err.is c.refused.ensures refl refl (λ h. lo) (λ h. lq) not_taken

pub returns-then-commit-gt-LAST_REMOTE : goal.returns-then-commit-gt-LAST_REMOTE
returns-then-commit-gt-LAST_REMOTE c = let is-sound : sound_of c.args.s ≡ true = c.in_default.ensures.passed.sound in outbound_refused c.args.commit c.args.persisted c.args.s c.args.list.now c.in_default.ensures.passed.list (is-sound) c.in_default.ensures.passed.full c.refused-then-commit-gt-LAST_REMOTE.ensures c.if-commit-gt-LAST_REMOTE.true

pub returns-then-commit-gt-LAST_REMOTE-2 : goal.returns-then-commit-gt-LAST_REMOTE-2
returns-then-commit-gt-LAST_REMOTE-2 c = let is-sound : sound_of c.args.s ≡ true = c.in_default.ensures.passed.sound in remote_refused c.args.commit c.args.persisted c.args.s c.args.list.now c.in_default.ensures.passed.list (is-sound) c.in_default.ensures.passed.full c.if-commit-gt-LAST_REMOTE.false c.refused-then-commit-gt-LAST_REMOTE-2.ensures c.if-commit-gt-LAST_REMOTE-2.true

pub release_by-done-requires : goal.release_by-done-requires
release_by-done-requires c = let is-sound : sound_of c.args.s ≡ true = c.in_default.ensures.passed.sound in may_release c.args.commit c.args.persisted c.args.s c.args.list.now c.in_default.ensures.passed.list (is-sound) c.in_default.ensures.passed.full c.if-commit-gt-LAST_REMOTE.false c.persisted_by-clock.result

pub returns : goal.returns
returns c = let is-sound : sound_of c.args.s ≡ true = c.in_default.ensures.passed.sound in completes_it c.args.commit c.args.persisted c.args.s c.args.list.now c.in_default.ensures.passed.list (is-sound) c.in_default.ensures.passed.full c.if-commit-gt-LAST_REMOTE.false c.if-commit-gt-LAST_REMOTE-2.false c.release_by-done.new.list c.notify_committed-n.new.list c.persisted_by-clock.result c.release_by-done.result c.notify_committed-n.result c.persisted_by-clock.ensures c.release_by-done.ensures c.notify_committed-n.ensures
