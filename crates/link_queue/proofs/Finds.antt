-- A number looked for among those queued. Assumes nothing.
use Rattle.std.specs.Prelude.{if◌then◌else◌}
use Rattle.std.specs.Int.{from_bool}
use mathlib.Core.Path.{◌≡◌, refl, sym, ap, ◌∙◌}
use mathlib.Core.Bool.{Bool, true, false, ◌||◌}
use mathlib.Core.List.{List, [], ◌∷◌, map}
use Prim.Native.Nat.{ℕ, zero, suc, ◌+◌, ◌-◌, ◌≤◌, ◌<◌}
use native.Mathlib.Omega.{arith}
use lib.ListN.{length, take, drop, length-take}
use lib.Dec.{ltb, leb, eqb}
use borrow.Author.Tests.{lt-ltb, le-leb}
use Rattle.stores.specs.Fronts.{front}
use Rattle.stores.proofs.Seats.{front-within}
use Rattle.rules.specs.Lists.{Bytes, any, total}
use Rattle.rules.specs.State.{is_frame}
use Rattle.queue.specs.View.{num_q, frames_of}
use Rattle.queue.specs.Steps.{Leads}
use Rattle.queue.proofs.View.{is-queued, queued_up_to, any-frame, leads}
use Rattle.parts.specs.Seats.{seats}
use Rattle.parts.specs.Parts.{at, queued_at, queue_in}
use Rattle.parts.proofs.Flags.{as_few}
use Rattle.parts.proofs.Seats.{take-seats, run_is, total-map, front-map}

-- ---- how often a test holds

total-any : {A : Type 0} (p : A → Bool) (xs : List A) → ltb 0 (total (λ x. from_bool (p x)) xs) ≡ any p xs
unfolding total any
total-any p [] = refl
total-any p (x ∷ xs) = go (p x) (total (λ x. from_bool (p x)) xs) (total-any p xs)
  where
    go : (t : Bool) (k : ℕ) → ltb 0 k ≡ any p xs → ltb 0 (from_bool t + k) ≡ (t || any p xs)
    go true k e = lt-ltb 0 (1 + k) (omega arith)
    go false k e = let z : 0 + k ≡ k = omega arith in ap (ltb 0) z ∙ e

total-few : {A : Type 0} (p : A → Bool) (xs : List A) → total (λ x. from_bool (p x)) xs ≤ length xs
unfolding total
total-few p [] = omega arith
total-few p (x ∷ xs) = omega (arith, as_few (p x), total-few p xs)

-- ---- the queued numbers, as the code lends them: how often one is there, and how many lead up to it

module _ (n : ℕ) (w : List ℕ) (few : at w 4 ≤ 256) (room : 272 ≤ length w) where
  abbrev pub run : List ℕ
  run = take (16 + at w 4 - 16) (drop 16 w)

  abbrev pub hit : ℕ → ℕ
  hit x = from_bool (eqb x n)

  run-numbers : (h b : List ℕ) → run ≡ map num_q (seats (at w 4) (queued_at w h b))
  run-numbers h b = run_is num_q 16 (at w 4) (queued_at w h b) w (omega arith) (λ j l. refl)

  in-use : (h b : List ℕ) → take (at w 4) (seats 256 (queued_at w h b)) ≡ seats (at w 4) (queued_at w h b)
  in-use h b = take-seats (at w 4) 256 (queued_at w h b) few

  pub hits_few : total hit run ≤ 256
  hits_few = let l : length run ≤ at w 4 = simp length-take (omega arith) in omega (arith, total-few (λ x. eqb x n) run)

  pub hits_any : (h b : List ℕ) (o : Bytes) → ltb 0 (total hit run) ≡ any (is_frame n) (frames_of (queue_in w h b) o)
  hits_any h b o =
      ap (λ (l : List ℕ). ltb 0 (total hit l)) (run-numbers h b)
      ∙ ap (ltb 0) (total-map num_q hit (seats (at w 4) (queued_at w h b)))
      ∙ total-any (is-queued n) (seats (at w 4) (queued_at w h b))
      ∙ ap (any (is-queued n)) (sym (in-use h b))
      ∙ sym (any-frame n (queue_in w h b) o)

  pub leads_run : (k : ℕ) → k ≡ front (λ x. leb x n) run → (h b : List ℕ) → Leads n (queue_in w h b) k
  leads_run k e h b =
      let l : length run ≤ at w 4 = simp length-take (omega arith) in
      leads n (queue_in w h b) k (omega (arith, front-within (λ x. leb x n) run))
      (e
      ∙ ap (front (λ x. leb x n)) (run-numbers h b)
      ∙ front-map num_q (λ x. leb x n) (seats (at w 4) (queued_at w h b))
      ∙ ap (front (queued_up_to n)) (sym (in-use h b)))

-- ---- where none is above it

front-all : {A : Type 0} (p : A → Bool) (n : ℕ) (f : ℕ → A) → ((j : ℕ) → j < n → p (f j) ≡ true) → n ≡ front p (seats n f)
unfolding front seats
front-all p zero f on = refl
front-all p (suc n) f on =
    ap suc (front-all p n (λ j. f (suc j)) (λ j k. on (suc j) (omega arith)))
    ∙ sym (ap (λ (t : Bool). if t then suc (front p (seats n (λ i. f (suc i)))) else 0) (on 0 (omega arith)))

pub leads_all : (n : ℕ) (w : List ℕ) → at w 4 ≤ 256 → ((j : ℕ) → j < at w 4 → at w (16 + j) ≤ n) → (h b : List ℕ) → Leads n (queue_in w h b) (at w 4)
leads_all n w few on h b =
    leads n (queue_in w h b) (at w 4) (omega arith)
    (front-all (queued_up_to n) (at w 4) (queued_at w h b) (λ j k. le-leb (at w (16 + j)) n (on j k))
    ∙ ap (front (queued_up_to n)) (sym (take-seats (at w 4) 256 (queued_at w h b) few)))
