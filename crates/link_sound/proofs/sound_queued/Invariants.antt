use Prim.Native.Nat.{◌≤◌}
use mathlib.Core.Path.{◌≡◌}
use lib.ListN.{take}
use lib.Seq.{slice}
use Rattle.stores.specs.Admitted.{admitted}
use Rattle.queue.specs.View.{num_q, len_q}
use Rattle.queue.specs.Sound.{admits_queued}
use Rattle.parts.specs.Seats.{seats}
use Rattle.parts.specs.Parts.{at, policy_in, queued_at}
use Rattle.link_sound.proofs.sound_queued.Given as goal

abbrev pub invariant-loop-i : goal.invariant-loop-i
invariant-loop-i l =
    (l.count ≤ 256) × (at l.words 12 ≤ 32768) × (l.i ≤ l.count) × (l.sum ≤ at l.words 12)
    × (admitted num_q len_q (admits_queued (policy_in l.words)) l.last l.sum (slice l.i l.count (seats 256 (queued_at l.words l.halves l.bytes)))
    ≡ admitted num_q len_q (admits_queued (policy_in l.words)) (at l.words 2) 0 (take l.count (seats 256 (queued_at l.words l.halves l.bytes))))
