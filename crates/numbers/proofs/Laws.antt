-- The numbers in use, words of a set that are lent and changed, and a number put at its place. Assumes nothing.
use mathlib.Core.Path.{◌≡◌, refl, sym, ap, ◌∙◌}
use mathlib.Core.List.{List, ◌∷◌, ◌++◌}
use Prim.Native.Nat.{ℕ, suc, ◌+◌, ◌-◌, ◌≤◌, ◌<◌}
use native.Mathlib.Omega.{arith}
use lib.ListN.{length, take, drop, get_or, set, length-append, length-take, length-drop, length-set}
use lib.Seq.{length-take-le, get_or-take, take_all, take-take}
use Rattle.std.proofs.lemmas.List.{take-append-le}
use Rattle.stores.specs.Placed.{placed}
use Rattle.stores.proofs.Laws.{length-placed}
use Rattle.stores.proofs.Packs.{opened}
use Rattle.stores.proofs.Seats.{Seated, seated}
use Rattle.rules.specs.Lists.{itself, put}
use Rattle.numbers.specs.declared.Numbers.{Numbers}
use Rattle.numbers.specs.Seats.{in_use, seat_of, but_last, ExactNumbers, Holds, Leads}

pub exact-length : (v : Numbers) → ExactNumbers v → length (in_use v) ≡ v.count
exact-length v e = length-take-le v.count v.values (omega (arith, e.full, e.few))

-- a set holds the numbers that are in use
pub exact-holds : (v : Numbers) → ExactNumbers v → Holds (in_use v) v
exact-holds v e = record { count = sym (exact-length v e); held = refl; exact = e }

-- the first k words of a set, lent and changed
module _ (values run : List ℕ) (k : ℕ) (few : k ≤ 512) (full : length values ≡ 512) (same : length run ≡ length (take k values)) where
  pub leads_hold : {ns : List ℕ} {j : ℕ} → Leads ns j run → Holds ns (record { values = run ++ drop k values; count = j })
  leads_hold {ns} {j} s =
      let size : length run ≡ k = same ∙ length-take-le k values (omega arith) in
      let within : j ≤ length run = omega (arith, s.count, simp length-take at (ap length s.held)) in
      record {
        count = s.count;
        held = take-append-le j run (drop k values) within ∙ s.held;
        exact = record { full = simp (length-append, length-drop) (omega (arith, size)); few = omega (arith, size) };
      }

-- ---- a number put

-- at an index of a run whose last place is free
pub put_run : (run up : List ℕ) (at n : ℕ) → at < length run → up ≡ placed run (at + 1) (take (length run - 1 - at) (drop at run))
    → set up at n ≡ take at (but_last run) ++ (n ∷ drop at (but_last run))
put_run run up at n h e =
    let m : ℕ = length run - 1 in
    let b : length (take (m - at) (drop at run)) ≡ m - at = simp (length-take, length-drop) (omega arith) in
    let size : length (set up at n) ≡ length run =
    length-set up at n ∙ ap length e ∙ length-placed run (at + 1) (take (m - at) (drop at run)) (omega arith) in
    sym (take_all (m + 1) (set up at n) (omega arith)) ∙ ap (λ (l : List ℕ). take (m + 1) (set l at n)) e ∙ opened run at m n (omega arith) (omega arith)

-- the c numbers that lead a list, and one more, in a run of its first c + 1
pub put_leads : (l run : List ℕ) (c k at n : ℕ) → k ≡ c + 1 → k ≤ length l → at ≤ c → run ≡ take at (but_last (take k l)) ++ (n ∷ drop at (but_last (take k l)))
    → Leads (take at (take c l) ++ (n ∷ drop at (take c l))) (c + 1) run
put_leads l run c k at n ek m h e =
    let ec : length (take k l) - 1 ≡ c = omega (arith, length-take-le k l m) in
    let eb : but_last (take k l) ≡ take c l = ap (λ (j : ℕ). take j (take k l)) ec ∙ take-take c k l (omega arith) in
    let er : run ≡ take at (take c l) ++ (n ∷ drop at (take c l)) = e ∙ ap (λ (x : List ℕ). take at x ++ (n ∷ drop at x)) eb in
    let size : length (take at (take c l) ++ (n ∷ drop at (take c l))) ≡ c + 1 = simp (length-append, length-take, length-drop) (omega arith) in
    record { count = sym size; held = ap (take (c + 1)) er ∙ take_all (c + 1) (take at (take c l) ++ (n ∷ drop at (take c l))) (omega arith) }

-- by the place that was found
module _ (v : Numbers) (n k : ℕ) (few : v.count ≤ 512) (full : length v.values ≡ 512) (e : k ≡ seat_of n (in_use v)) where
  size : length (in_use v) ≡ v.count
  size = length-take-le v.count v.values (omega arith)

  seat : Seated itself n (in_use v) 0 k
  unfolding seat_of
  seat = let s = seated itself n (in_use v) 0 in rw (sym e) at s

  pub seat_within : k ≤ v.count
  seat_within = omega (arith, seat.within, size)

  at_index : k < v.count → get_or (in_use v) k 0 ≡ get_or v.values k 0
  at_index h = get_or-take v.count v.values k 0 h

  pub put_old : k < v.count → get_or v.values k 0 ≡ n → Holds (put itself n (in_use v)) v
  put_old h q =
      let p : put itself n (in_use v) ≡ in_use v = seat.old (omega (arith, size)) (at_index h ∙ q) in
      rw p (exact-holds v (record { full = full; few = few }))

  module _ (q : k < v.count → get_or v.values k 0 ≡ n → ⊥) where
    put_is : put itself n (in_use v) ≡ take k (in_use v) ++ (n ∷ drop k (in_use v))
    put_is = seat.new (λ h p. q (omega (arith, size)) (sym (at_index (omega (arith, size))) ∙ p))

    pub put-room : length (put itself n (in_use v)) ≤ 512 → v.count < 512
    put-room h =
        let s : k ≤ v.count = seat_within in
        let z : length (put itself n (in_use v)) ≡ suc (length (in_use v)) =
        ap length put_is ∙ simp (length-append, length-take, length-drop) (omega (arith, size)) in
        omega (arith, size)

    pub put-new : (r : Numbers) → Holds (take k (in_use v) ++ (n ∷ drop k (in_use v))) r → Holds (put itself n (in_use v)) r
    put-new r p = rw put_is p
