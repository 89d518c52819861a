use native.Mathlib.Omega.{arith}
use mathlib.Core.Path.{refl}
use Rattle.rules.specs.declared.Answer.TheVariants.{Refused}
use Rattle.rules.specs.Calls.{gets_keepalive}
use Rattle.rules.specs.Buffers.{taken_by, short, wrong_code}
use Rattle.session.specs.Promise.{lent}
use Rattle.session.proofs.Entries.{stops}
use Rattle.session.proofs.Lengths.{not_taken}
use Rattle.parts.specs.Parts.{parts, opened_of}
use Rattle.parts.proofs.Drives.{tells}
use Rattle.link_reports.proofs.Keepalives.{told, retries}
use Rattle.link_reports.proofs.keepalive.Goals as goal

pub returns-in-Err : goal.returns-in-Err
unfolding taken_by short wrong_code
returns-in-Err c =
    let p = parts c.args.words.now c.args.halves.now c.args.bytes.now c.args.clock.now in
    tells p (Refused c.in-Err.x) 0 c.refusal.ensures (λ d o q lo lq. stops gets_keepalive (opened_of p) (lent c.args.list.now d o q) {r = record { session = opened_of p; answer = Refused c.in-Err.x; events = 0 }} (c.enters.ensures.tested c.args.clock.now) c.in-Err.is (record { session = refl; answer = refl; events = refl }) refl refl (λ h. lo) (λ h. lq) not_taken)

pub emit-requires : goal.emit-requires
emit-requires c = omega (arith, (c.in_default.ensures.passed c.args.clock.now).list)

pub list_all-n-requires : goal.list_all-n-requires
list_all-n-requires c =
    let a = c.in_default.ensures.passed c.args.clock.now in
    let k = retries c.args.words.now c.args.halves.now c.args.bytes.now c.args.clock.now a.sound a.full in
    (k, omega (arith, a.list, k.exact.few))

pub returns : goal.returns
returns c =
    let a = c.in_default.ensures.passed c.args.clock.now in
    told c.args.words.now c.args.halves.now c.args.bytes.now c.args.clock.now c.args.list.now a.list a.sound a.full c.emit.ensures c.list_all-n.ensures.listed c.flag.ensures
