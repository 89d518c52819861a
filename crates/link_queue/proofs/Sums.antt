-- Where the queued bodies end, as a sum over the lengths. Assumes nothing.
use mathlib.Core.Path.{◌≡◌, refl, sym, ap, ◌∙◌}
use mathlib.Core.List.{List}
use Prim.Native.Nat.{ℕ, ◌+◌, ◌-◌, ◌≤◌}
use native.Mathlib.Omega.{arith}
use Rattle.rules.specs.Lists.{total, itself}
use lib.ListN.{length, take, drop}
use Rattle.queue.specs.View.{len_q, used_q, end_q}
use Rattle.queue.proofs.Changes.{start_plain, start-within}
use Rattle.parts.specs.Seats.{seats}
use Rattle.parts.specs.Parts.{at, queued_at, queue_in}
use Rattle.parts.proofs.Seats.{take-seats, map-seats, run_is, total-map}
use Rattle.link_queue.specs.Steps.{bodies, Summing}

pub run-bodies : (h : List ℕ) (k : ℕ) → 512 + k ≤ length h → total itself (take (512 + k - 512) (drop 512 h)) ≡ bodies h k
run-bodies h k room =
    ap (total itself) (run_is itself 512 k (λ i. at h (512 + i)) h room (λ j l. refl)) ∙ total-map itself itself (seats k (λ i. at h (512 + i)))

module _ (w h b : List ℕ) where
  front-bodies : (k : ℕ) → k ≤ 256 → total len_q (take k (seats 256 (queued_at w h b))) ≡ bodies h k
  front-bodies k l =
      ap (total len_q) (take-seats k 256 (queued_at w h b) l)
      ∙ sym (total-map len_q itself (seats k (queued_at w h b)))
      ∙ ap (total itself) (map-seats len_q k (queued_at w h b))

  pub end-bodies : at w 4 ≤ 256 → end_q (queue_in w h b) ≡ bodies h (at w 4)
  end-bodies l = front-bodies (at w 4) l

  pub start-bodies : (k : ℕ) → k ≤ at w 4 → at w 4 ≤ 256 → total len_q (take k (used_q (queue_in w h b))) ≡ bodies h k
  start-bodies k within few = start_plain (queue_in w h b) k within ∙ front-bodies k (omega arith)

  -- the sum up to any frame is one that `start` makes
  pub summing : (k : ℕ) → k ≤ at w 4 → at w 4 ≤ 256 → end_q (queue_in w h b) ≤ 32768 → Summing h k
  summing k within few small =
      record {
        few = omega arith;
        small = omega (arith, start-bodies k within few, start-within (queue_in w h b) k);
      }

  pub start-before : (k : ℕ) → k ≤ at w 4 → at w 4 ≤ 256 → bodies h k ≤ bodies h (at w 4)
  start-before k within few = omega (arith, start-bodies k within few, end-bodies few, start-within (queue_in w h b) k)
