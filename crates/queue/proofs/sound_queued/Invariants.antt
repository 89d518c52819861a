use Prim.Native.Nat.{◌≤◌}
use mathlib.Core.Path.{◌≡◌}
use lib.ListN.{length}
use lib.Seq.{slice}
use Rattle.queue.specs.View.{num_q, len_q, used_q}
use Rattle.queue.specs.Sound.{admits_queued}
use Rattle.stores.specs.Admitted.{admitted}
use Rattle.queue.proofs.sound_queued.Given as goal

abbrev pub invariant-loop-u : goal.invariant-loop-u
invariant-loop-u l =
    (l.sum ≤ l.p.bytes)
    × (admitted num_q len_q (admits_queued l.p) l.last l.sum (slice l.u-index (length l.u-items) l.u-items) ≡ admitted num_q len_q (admits_queued l.p) l.fn.remote 0 (used_q l.fn.q))
