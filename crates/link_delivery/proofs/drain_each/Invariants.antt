use Rattle.events.specs.Written.{books}
use Rattle.link_delivery.proofs.Turns.{TurnsIn}
use Rattle.link_delivery.proofs.drain_each.Given as goal

abbrev pub invariant-loop-i : goal.invariant-loop-i
invariant-loop-i l =
    let s = l.initial.step in
    TurnsIn l.status s.turn l.initial.words l.halves l.bytes l.from l.store (books l.initial.list s.events l.initial.delivery s.at) l.step.turn l.words l.k l.i l.start
    (books l.list l.step.events l.delivery l.step.at)
