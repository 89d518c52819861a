-- `link_commits::complete` meets its contract, refusal by refusal. Assumes nothing.
use mathlib.Core.Path.{refl}
use native.Mathlib.Omega.{arith}
use Rattle.rules.specs.declared.Refusal.TheVariants.{CommitNumber}
use Rattle.rules.specs.Calls.{completes}
use Rattle.rules.specs.Buffers.{taken_by, short, wrong_code}
use Rattle.session.specs.Promise.{lent}
use Rattle.session.proofs.Entries.{stops}
use Rattle.session.proofs.Lengths.{not_taken}
use Rattle.commits.proofs.Completes.{outbound_refused, remote_refused}
use Rattle.parts.specs.Parts.{parts, opened_of}
use Rattle.parts.proofs.Drives.{refuses}
use Rattle.link_commits.proofs.complete.Goals as goal

pub returns-in-Err : goal.returns-in-Err
unfolding taken_by short wrong_code
returns-in-Err c =
    let p = parts c.args.words.now c.args.halves.now c.args.bytes.now c.args.clock.now in
    refuses p _ c.refusal.ensures (λ r u d o q lo lq. stops (completes c.args.commit c.args.persisted) (opened_of p) (lent c.args.list.now d o q) (c.enters.ensures.tested c.args.clock.now) c.in-Err.is u refl refl (λ h. lo) (λ h. lq) not_taken)

pub returns-then-commit-gt-LAST_REMOTE : goal.returns-then-commit-gt-LAST_REMOTE
returns-then-commit-gt-LAST_REMOTE c =
    let p = parts c.args.words.now c.args.halves.now c.args.bytes.now c.args.clock.now in
    let a = c.in_default.ensures.passed c.args.clock.now in
    refuses p CommitNumber c.refusal-then-commit-gt-LAST_REMOTE.ensures (λ r u. outbound_refused c.args.commit c.args.persisted (opened_of p) c.args.list.now a.list a.sound a.full u c.if-commit-gt-LAST_REMOTE.true)

pub returns-then-commit-gt-LAST_REMOTE-2 : goal.returns-then-commit-gt-LAST_REMOTE-2
returns-then-commit-gt-LAST_REMOTE-2 c =
    let p = parts c.args.words.now c.args.halves.now c.args.bytes.now c.args.clock.now in
    let a = c.in_default.ensures.passed c.args.clock.now in
    refuses p CommitNumber c.refusal-then-commit-gt-LAST_REMOTE-2.ensures (λ r u. remote_refused c.args.commit c.args.persisted (opened_of p) c.args.list.now a.list a.sound a.full c.if-commit-gt-LAST_REMOTE.false u c.if-commit-gt-LAST_REMOTE-2.true)

pub finish-requires : goal.finish-requires
finish-requires c =
    let a = c.in_default.ensures.passed c.args.clock.now in
    record { sound = a.sound; full = a.full; halves = omega arith; list = a.list; outbound = c.if-commit-gt-LAST_REMOTE.false; remote = c.if-commit-gt-LAST_REMOTE-2.false }
