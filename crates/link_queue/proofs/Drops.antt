-- The first frames go, of a queue in place. Assumes nothing.
use mathlib.Core.Path.{◌≡◌, refl, sym, ap, ◌∙◌, subst}
use mathlib.Core.List.{List, [], map}
use Prim.Native.Nat.{ℕ, ◌+◌, ◌-◌, ◌≤◌, ◌<◌}
use native.Mathlib.Omega.{arith}
use lib.ListN.{length, take, drop, set, replicate, length-set}
use lib.Seq.{get_or-set_same, get_or-set_other}
use Rattle.stores.specs.Placed.{placed}
use Rattle.stores.proofs.Laws.{placed-none}
use Rattle.rules.specs.Lists.{Bytes}
use Rattle.rules.specs.State as R
use Rattle.queue.specs.declared.Queue.{Queue}
use Rattle.queue.specs.View.{record_q, used_q, frames_of, end_q, ExactQueue}
use Rattle.queue.proofs.View.{repacked_as}
use Rattle.queue.proofs.Changes.{dropped, none_left, start-all}
use Rattle.parts.specs.Seats.{seats}
use Rattle.parts.specs.Parts.{at, queued_at, queue_in}
use Rattle.parts.proofs.Seats.{length-seats, seats-same, take-seats}
use Rattle.link_moves.specs.Moves.{Lowered}
use Rattle.link_queue.specs.Frames.{OnlyQueue}
use Rattle.link_queue.specs.Steps.{bodies, Requeued}
use Rattle.link_queue.proofs.Sums.{start-bodies, end-bodies}
use Rattle.link_queue.proofs.Records.{requeued_same, recast, records-past}

module _ (w h b : List ℕ) (q : Bytes) (e : ExactQueue (queue_in w h b) (length q)) (full : length w ≡ 1296) where
  abbrev x : Queue
  x = queue_in w h b

  pub dropped_none : (k : ℕ) → k ≡ 0 → Requeued (drop k (frames_of (queue_in w h b) q)) w h b q w h b q
  dropped_none k z = subst (λ (j : ℕ). Requeued (drop j (frames_of (queue_in w h b) q)) w h b q w h b q) (sym z) (requeued_same w h b q e)

  -- ---- some

  module _ (k : ℕ) (within : k ≤ at w 4) (w₁ h' b' : List ℕ) (W : Lowered 16 (16 + k) (at w 4 - k) w w₁) (H : Lowered 512 (512 + k) (at w 4 - k) h h')
      (B : Lowered 512 (512 + k) (at w 4 - k) b b') where
    abbrev w' : List ℕ
    w' = set w₁ 4 (at w 4 - k)

    counted : at w' 4 ≡ at w 4 - k
    counted = get_or-set_same w₁ 4 (at w 4 - k) 0 (omega (arith, W.size))

    others : (i : ℕ) → (i ≡ 4 → ⊥) → at w' i ≡ at w₁ i
    others i n = get_or-set_other w₁ 4 i (at w 4 - k) 0 n

    one : (i : ℕ) → i < at w 4 - k → queued_at w' h' b' i ≡ queued_at w h b (k + i)
    one i l =
        let g : 16 + k + i ≡ 16 + (k + i) = omega arith in
        let f : 512 + k + i ≡ 512 + (k + i) = omega arith in
        let p1 : at w' (16 + i) ≡ at w (16 + (k + i)) = others (16 + i) (λ z. omega arith) ∙ W.moved i 0 l ∙ ap (at w) g in
        let p2 : at h' (512 + i) ≡ at h (512 + (k + i)) = H.moved i 0 l ∙ ap (at h) f in
        let p3 : at b' (512 + i) ≡ at b (512 + (k + i)) = B.moved i 0 l ∙ ap (at b) f in
        rw (p1, p2, p3)

    records : used_q (queue_in w' h' b') ≡ map record_q (drop k (frames_of x q))
    records =
        ap (λ (n : ℕ). take n (seats 256 (queued_at w' h' b'))) counted
        ∙ take-seats (at w 4 - k) 256 (queued_at w' h' b') (omega (arith, e.few))
        ∙ seats-same (at w 4 - k) (queued_at w' h' b') (λ i. queued_at w h b (k + i)) one
        ∙ sym (records-past w h b q e k within)

    only : OnlyQueue w h b w' h' b'
    only =
        record {
          words = length-set w₁ 4 (at w 4 - k) ∙ W.size;
          halves = H.size;
          bytes = B.size;
          below = λ i l n. others i n ∙ W.below i 0 l;
          above = λ i l. others i (λ z. omega arith) ∙ W.above i 0 (omega (arith, e.few));
          unacked = λ i l. H.below i 0 l;
          clock = λ i l. H.above i 0 (omega (arith, e.few));
          flags = λ i l. B.below i 0 l;
          rest = λ i l. B.above i 0 (omega (arith, e.few));
        }

    pub dropped_some : (from end : ℕ) → from ≡ bodies h k → end ≡ bodies h (at w 4) → (q₁ q₂ : Bytes) → q₁ ≡ placed q 0 (take (end - from) (drop from q))
        → q₂ ≡ placed q₁ (end - from) (replicate (end - (end - from)) 0) → Requeued (drop k (frames_of (queue_in w h b) q)) w h b q (set w₁ 4 (at w 4 - k)) h' b' q₂
    dropped_some from end ef ee q₁ q₂ e₁ e₂ =
        record {
          repacked =
              recast e
              (dropped x q k within e from end (end - from) (ef ∙ sym (start-bodies w h b k within e.few)) (ee ∙ sym (end-bodies w h b e.few)) refl
              q₁ q₂ (placed x.records 0 (take (x.count - k) (drop k x.records))) (replicate (end - (end - from)) 0) e₁ refl e₂ refl)
              (queue_in w' h' b') (length-seats 256 (queued_at w' h' b')) (omega (arith, counted, e.few)) records;
          only = only;
        }

  -- ---- all

  abbrev v : List ℕ
  v = set w 4 0

  none : at v 4 ≡ 0
  none = get_or-set_same w 4 0 0 (omega arith)

  apart : (i : ℕ) → (i ≡ 4 → ⊥) → at v i ≡ at w i
  apart i n = get_or-set_other w 4 i 0 0 n

  pub cleared : (end : ℕ) → end ≡ bodies h (at w 4) → (q₂ : Bytes) → q₂ ≡ placed q 0 (replicate (end - 0) 0) → Requeued [] w h b q (set w 4 0) h b q₂
  cleared end ee q₂ e₂ =
      let eT : end ≡ end_q (queue_in w h b) = ee ∙ sym (end-bodies w h b e.few) in
      record {
        repacked =
            recast e
            (repacked_as (none_left x q e)
            (dropped x q (at w 4) (omega arith) e end end 0 (eT ∙ sym (start-all x)) eT (omega arith) q q₂
            (placed x.records 0 (take (x.count - at w 4) (drop (at w 4) x.records))) (replicate (end - 0) 0) (sym (placed-none q 0)) refl e₂ refl))
            (queue_in v h b) (length-seats 256 (queued_at v h b)) (omega (arith, none)) (ap (λ (n : ℕ). take n (seats 256 (queued_at v h b))) none);
        only =
            record {
              words = length-set w 4 0;
              halves = refl;
              bytes = refl;
              below = λ i l n. apart i n;
              above = λ i l. apart i (λ z. omega arith);
              unacked = λ i l. refl;
              clock = λ i l. refl;
              flags = λ i l. refl;
              rest = λ i l. refl;
            };
      }

  pub cleared-front : (k : ℕ) (v' : List ℕ) (q₂ : Bytes) → k ≡ at w 4 → Requeued [] w h b q v' h b q₂ → Requeued (drop k (frames_of (queue_in w h b) q)) w h b q v' h b q₂
  cleared-front k v' q₂ z g =
      subst (λ (fs : List R.Frame). Requeued fs w h b q v' h b q₂) (sym (ap (λ (j : ℕ). drop j (frames_of (queue_in w h b) q)) z ∙ none_left x q e)) g
