use mathlib.Core.Path.{◌≡◌}
use Rattle.events.specs.Written.{books}
use Rattle.delivery.proofs.Drains.{Turns}
use Rattle.delivery.proofs.drain.Given as goal

abbrev pub invariant-drain : goal.invariant-drain
invariant-drain l =
    let s = l.initial.step in
    record {
      turns : Turns l.status s.turn l.initial.waiting l.q l.from l.store (books l.initial.list s.events l.initial.delivery s.at) l.step.turn l.waiting l.i
          l.start (books l.list l.step.events l.delivery l.step.at);
      taken : l.taken ≡ l.i;
    }
