use Prim.Native.Nat.{◌≤◌}
use mathlib.Core.Path.{◌≡◌}
use lib.ListN.{length}
use lib.Seq.{slice}
use Rattle.stores.specs.Admitted.{admitted}
use Rattle.outbox.specs.View.{num_u, len_u, used_u}
use Rattle.outbox.specs.Sound.{admits_unacked}
use Rattle.outbox.proofs.sound_unacked.Given as goal

abbrev pub invariant-loop-u : goal.invariant-loop-u
invariant-loop-u l =
    (l.sum ≤ 65536)
    × (admitted num_u len_u (admits_unacked l.fn.o.next) l.last l.sum (slice l.u-index (length l.u-items) l.u-items) ≡ admitted num_u len_u (admits_unacked l.fn.o.next) 0 0 (used_u l.fn.o))
