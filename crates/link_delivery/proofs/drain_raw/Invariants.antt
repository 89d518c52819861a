use mathlib.Core.Path.{◌≡◌}
use Rattle.events.specs.Written.{books}
use Rattle.link_delivery.proofs.RawTurns.{RawTurns}
use Rattle.link_delivery.proofs.drain_raw.Given as goal

abbrev pub invariant-loop-i : goal.invariant-loop-i
invariant-loop-i l =
    record {
      raw : RawTurns l.s.turn l.initial.words l.halves l.bytes l.from l.store (books l.initial.list l.initial.events l.initial.delivery l.initial.at) l.words l.generation l.remote l.k l.i l.start (books l.list l.events l.delivery l.at);
      whole : l.taken ≡ l.count;
    }
