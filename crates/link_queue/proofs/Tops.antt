-- A number above all that are queued: it is not queued, and all of them lead up to it. Assumes nothing.
use mathlib.Core.Path.{◌≡◌, refl, sym, ap, ◌∙◌}
use mathlib.Core.Bool.{Bool, true, false, ◌||◌}
use mathlib.Core.List.{List, [], ◌∷◌, map}
use Prim.Native.Nat.{ℕ, zero, suc, ◌+◌, ◌-◌, ◌≤◌, ◌<◌}
use native.Mathlib.Omega.{arith}
use lib.ListN.{length}
use lib.Dec.{ltb}
use borrow.Author.Tests.{ltb-true, ne_eqb}
use Rattle.rules.specs.Lists.{Bytes, any, rising, itself}
use Rattle.rules.specs.State as R
use Rattle.rules.specs.State.{frame_number, is_frame}
use Rattle.rules.proofs.Lists.{and_left, and_right}
use Rattle.queue.specs.View.{num_q, record_q, frames_of, ExactQueue}
use Rattle.queue.specs.Steps.{Leads}
use Rattle.queue.proofs.View.{is-queued, any-frame, frames-records}
use Rattle.parts.specs.Seats.{seats}
use Rattle.parts.specs.Parts.{at, queued_at, queue_in}
use Rattle.parts.proofs.Seats.{take-seats, map-seats}
use Rattle.link_queue.specs.Steps.{Topped, Below}
use Rattle.link_queue.proofs.Finds.{leads_all}

-- ---- of numbers that rise the last is the highest

rise_above : (n m : ℕ) (f : ℕ → ℕ) → rising itself m (seats n f) ≡ true → (i : ℕ) → i < n → m < f i
unfolding rising seats
rise_above zero m f h i l = absurd (omega arith)
rise_above (suc n) m f h zero l = ltb-true m (f 0) (and_left (ltb m (f 0)) _ h)
rise_above (suc n) m f h (suc i) l =
    let lo : m < f 0 = ltb-true m (f 0) (and_left (ltb m (f 0)) _ h) in
    let hi : f 0 < f (suc i) = rise_above n (f 0) (λ j. f (suc j)) (and_right (ltb m (f 0)) _ h) i (omega arith) in
    omega (arith, lo, hi)

rise : (n m : ℕ) (f : ℕ → ℕ) → rising itself m (seats n f) ≡ true → (i j : ℕ) → i ≤ j → j < n → f i ≤ f j
unfolding rising seats
rise zero m f h i j l k = absurd (omega arith)
rise (suc n) m f h zero zero l k = omega arith
rise (suc n) m f h zero (suc j) l k =
    let hi : f 0 < f (suc j) = rise_above n (f 0) (λ j. f (suc j)) (and_right (ltb m (f 0)) _ h) j (omega arith) in
    omega (arith, hi)
rise (suc n) m f h (suc i) zero l k = absurd (omega arith)
rise (suc n) m f h (suc i) (suc j) l k = rise n (f 0) (λ j. f (suc j)) (and_right (ltb m (f 0)) _ h) i j (omega arith) (omega arith)

rising-numbers : (m : ℕ) (fs : List R.Frame) → rising frame_number m fs ≡ rising itself m (map num_q (map record_q fs))
unfolding rising
rising-numbers m [] = refl
rising-numbers m (f ∷ fs) = rw (rising-numbers f.number fs)

module _ (w h b : List ℕ) (q : Bytes) (ex : ExactQueue (queue_in w h b) (length q)) (m : ℕ) (order : rising frame_number m (frames_of (queue_in w h b) q) ≡ true) where
  ordered : rising itself m (seats (at w 4) (λ i. at w (16 + i))) ≡ true
  ordered =
      sym
      (rising-numbers m (frames_of (queue_in w h b) q)
      ∙ ap (rising itself m)
      (ap (map num_q) (frames-records (queue_in w h b) q ex ∙ take-seats (at w 4) 256 (queued_at w h b) ex.few) ∙ map-seats num_q (at w 4) (queued_at w h b)))
      ∙ order

  pub topped : Topped w
  topped =
      record {
        few = ex.few;
        top =
            λ i l.
            let e : 16 + (at w 4 - 1) ≡ 15 + at w 4 = omega (arith, l) in
            let k : at w (16 + i) ≤ at w (16 + (at w 4 - 1)) = rise (at w 4) m (λ j. at w (16 + j)) ordered i (at w 4 - 1) (omega (arith, l)) (omega (arith, l)) in
            omega (arith, k, ap (at w) e);
      }

-- ---- a number above the last

none-seats : {A : Type 0} (p : A → Bool) (n : ℕ) (f : ℕ → A) → ((i : ℕ) → i < n → p (f i) ≡ false) → any p (seats n f) ≡ false
unfolding any seats
none-seats p zero f h = refl
none-seats p (suc n) f h =
    ap (λ (t : Bool). t || any p (seats n (λ i. f (suc i)))) (h 0 (omega arith)) ∙ none-seats p n (λ i. f (suc i)) (λ i l. h (suc i) (omega arith))

module _ {n : ℕ} {w : List ℕ} (few : at w 4 ≤ 256) (g : Below n w) where
  pub not_queued : (h b : List ℕ) (o : Bytes) → false ≡ any (is_frame n) (frames_of (queue_in w h b) o)
  not_queued h b o =
      sym
      (any-frame n (queue_in w h b) o
      ∙ ap (any (is-queued n)) (take-seats (at w 4) 256 (queued_at w h b) few)
      ∙ none-seats (is-queued n) (at w 4) (queued_at w h b) (λ i l. ne_eqb (at w (16 + i)) n (λ e. omega (arith, g.each i l, e))))

  pub leads_below : (h b : List ℕ) → Leads n (queue_in w h b) (at w 4)
  leads_below h b = leads_all n w few (λ j l. omega (arith, g.each j l)) h b
