-- `replays::connectivity` meets its contract, by the ranges of the event's code. Assumes nothing.
use mathlib.Core.Path.{refl, sym, ◌∙◌}
use native.Mathlib.Omega.{arith}
use Rattle.rules.specs.Calls.{connects}
use Rattle.rules.specs.Buffers.{taken_by, short}
use Rattle.session.specs.Promise.{lent}
use Rattle.session.proofs.Lengths.{not_taken}
use Rattle.session.proofs.Entries.{stops}
use Rattle.replays.proofs.Connects.{read-code, known_one, quiet}
use Rattle.replays.proofs.connectivity.Goals as goal
use Rattle.replays.proofs.connectivity.Goals.{in_default-event-via-then-event-lt1, in_default-event-via-else-event-lt1+else-event-lt4+else-event-lt6}

pub returns-in-Err : goal.returns-in-Err
unfolding taken_by short
returns-in-Err c = λ d o q lo lq.
    stops (connects c.args.event c.args.time c.args.force) c.args.s (lent c.args.list.now d o q)
    c.enters.ensures.tested c.in-Err.is c.refused.ensures refl
    (read-code _ _ _ c.try_from.result c.try_from.ensures ∙ sym c.is_err-wrong.ensures.value) (λ h. lo) (λ h. lq) not_taken

pub returns-in-1-to-3 : goal.returns-in-1-to-3
returns-in-1-to-3 c =
    let p = c.in_default.ensures.passed in
    quiet c.args.event c.args.time c.args.force c.args.s c.args.list.now p.list p.sound p.full (omega arith) (omega arith)

pub returns-in-4-to-5 : goal.returns-in-4-to-5
returns-in-4-to-5 c = c.replayed.ensures c.args.event (omega arith) (omega arith)

-- no event comes here: the entry refuses a number that is none
pub returns-in_default-event : goal.returns-in_default-event
returns-in_default-event c =
    let z = sym c.is_err-wrong.ensures.value ∙ c.in_default.ensures.passed.known in
    let n = known_one c.args.event c.args.time c.args.force c.try_from.result c.try_from.ensures z in
    elim c.in_default-event.branch [
      | in_default-event-via-then-event-lt1 w ↦ absurd (omega (arith, n.0))
      | in_default-event-via-else-event-lt1+else-event-lt4+else-event-lt6 w ↦ absurd (omega (arith, n.1))
    ]
