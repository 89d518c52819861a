-- The queued frames' records, by what stands at each index of the parts. Assumes nothing.
use mathlib.Core.Path.{◌≡◌, refl, sym, ap, ◌∙◌}
use mathlib.Core.List.{List, map}
use Prim.Native.Nat.{ℕ, ◌+◌, ◌-◌, ◌≤◌, ◌<◌}
use native.Mathlib.Omega.{arith}
use lib.ListN.{length, take, drop, get_or, length-drop}
use lib.Seq.{get_or-drop, length-take-le}
use Rattle.stores.proofs.Packs.{map-drop}
use Rattle.rules.specs.Lists.{Bytes, packed}
use Rattle.rules.specs.State as R
use Rattle.rules.specs.State.{frame_body}
use Rattle.rules.proofs.Lists.{length-packed}
use Rattle.rules.proofs.Buffers.{repacked-same}
use Rattle.queue.specs.declared.Queued.{Queued}
use Rattle.queue.specs.declared.Queue.{Queue}
use Rattle.queue.specs.View.{record_q, blank_q, used_q, frames_of, end_q, ExactQueue, Repacked}
use Rattle.queue.proofs.View.{used-length, frames-records, frames-bytes, frames-total, repacked-is}
use Rattle.parts.specs.Seats.{seats}
use Rattle.parts.specs.Parts.{at, queued_at, queue_in}
use Rattle.parts.proofs.Seats.{get_d_seats, seats_of, take-seats}
use Rattle.link_queue.specs.Frames.{OnlyQueue}
use Rattle.link_queue.specs.Steps.{Requeued}

-- nothing is done
pub same_queue : (x : Queue) (q : Bytes) → ExactQueue x (length q) → Repacked x q (frames_of x q) x q
same_queue x q e =
    record {
      frames = refl;
      exact = e;
      bytes =
          sym
          (repacked-same (end_q x) (packed frame_body (frames_of x q)) q (frames-bytes x q e)
          (length-packed frame_body (frames_of x q) ∙ frames-total x q e));
      size = refl;
    }

pub only_same : (w h b : List ℕ) → OnlyQueue w h b w h b
only_same w h b =
    record {
      words = refl;
      halves = refl;
      bytes = refl;
      below = λ i l n. refl;
      above = λ i l. refl;
      unacked = λ i l. refl;
      clock = λ i l. refl;
      flags = λ i l. refl;
      rest = λ i l. refl;
    }

pub requeued_same : (w h b : List ℕ) (q : Bytes) → ExactQueue (queue_in w h b) (length q) → Requeued (frames_of (queue_in w h b) q) w h b q w h b q
requeued_same w h b q e = record { repacked = same_queue (queue_in w h b) q e; only = only_same w h b }

-- the same frames and bytes, with the records in another array
pub recast : {x : Queue} {q : Bytes} {fs : List R.Frame} {r : Queue} {q' : Bytes} → ExactQueue x (length q) → Repacked x q fs r q'
    → (r' : Queue) → length r'.records ≡ 256 → r'.count ≤ 256 → used_q r' ≡ map record_q fs → Repacked x q fs r' q'
recast {x} {q} {fs} {r} {q'} e p r' full few records =
    let held : packed frame_body fs ≡ take (end_q r) q' = sym (ap (packed frame_body) p.frames) ∙ frames-bytes r q' p.exact in
    let size : length (packed frame_body fs) ≡ end_q r = ap length held ∙ length-take-le (end_q r) q' (omega (arith, p.exact.small, p.exact.room)) in
    repacked-is x q fs r' q' e full few records (omega (arith, p.exact.small)) p.bytes

module _ (w h b : List ℕ) (q : Bytes) (e : ExactQueue (queue_in w h b) (length q)) where
  pub used-at : (i : ℕ) → i < at w 4 → get_or (used_q (queue_in w h b)) i blank_q ≡ queued_at w h b i
  used-at i l =
      ap (λ (us : List Queued). get_or us i blank_q) (take-seats (at w 4) 256 (queued_at w h b) e.few) ∙ get_d_seats (at w 4) (queued_at w h b) i blank_q l

  -- the records of the frames after the first k
  pub records-past : (k : ℕ) → k ≤ at w 4 → map record_q (drop k (frames_of (queue_in w h b) q)) ≡ seats (at w 4 - k) (λ i. queued_at w h b (k + i))
  records-past k l =
      map-drop record_q k (frames_of (queue_in w h b) q)
      ∙ ap (drop k) (frames-records (queue_in w h b) q e)
      ∙ seats_of (at w 4 - k) (λ i. queued_at w h b (k + i)) (drop k (used_q (queue_in w h b))) blank_q
      (length-drop k (used_q (queue_in w h b)) ∙ ap (λ (n : ℕ). n - k) (used-length (queue_in w h b) q e))
      (λ i r. get_or-drop k (used_q (queue_in w h b)) i blank_q ∙ used-at (k + i) (omega arith))
