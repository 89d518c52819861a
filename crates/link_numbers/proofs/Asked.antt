-- What is asked of numbers from an index of the words on, and of a list that rises. Assumes nothing.
use Prim.Native.Nat.{ℕ, zero, suc, ◌+◌, ◌-◌, ◌≤◌, ◌<◌}
use mathlib.Core.Path.{◌≡◌, refl, sym, ap, ◌∙◌, subst}
use mathlib.Core.Bool.{Bool, true, false, ◌&&◌}
use mathlib.Core.List.{List, [], ◌∷◌}
use native.Mathlib.Omega.{arith}
use lib.ListN.{length, get_or, take, drop}
use lib.Seq.{slice, get_or-take, length-take-le, take-take, drop-drop}
use Rattle.stores.proofs.Packs.{drop-take}
use lib.Dec.{leb, ltb}
use borrow.Author.Tests.{le-leb, lt-ltb, le-ltb, ltb-true, leb-true}
use Rattle.stores.specs.Fronts.{front}
use Rattle.rules.specs.Lists.{all, rising, itself}
use Rattle.rules.specs.Sound.{at_most, ascending}
use Rattle.rules.proofs.Lists.{and_left, and_right}
use Rattle.numbers.specs.Seats.{under, seat_of}
use Rattle.parts.specs.Parts.{at, section}
use Rattle.link_numbers.specs.Sets.{firsts}
use Rattle.link_numbers.proofs.Sets.{section-length, section-at}

-- ---- the run of words that the code lends for the numbers in use, and for those from an index on

module _ (from n : ℕ) (w : List ℕ) (few : n ≤ 512) where
  pub run_is : take (from + n - from) (drop from w) ≡ firsts from n w
  run_is = let e : from + n - from ≡ n = omega arith in ap (λ (k : ℕ). take k (drop from w)) e ∙ sym (take-take n 512 (drop from w) few)

  pub run_from : (first : ℕ) → take (from + n - (from + first)) (drop (from + first) w) ≡ slice first n (section from 512 w)
  run_from first =
      let e : from + n - (from + first) ≡ n - first = omega arith in
      ap (λ (k : ℕ). take k (drop (from + first) w)) e
      ∙ ap (take (n - first)) (sym (drop-drop first from w))
      ∙ sym (drop-take first n (drop from w))
      ∙ ap (drop first) (sym (take-take n 512 (drop from w) few))

pos : (n : ℕ) → (n ≡ 0 → ⊥) → 0 < n
pos zero q = absurd (q refl)
pos (suc n) q = omega arith

-- ---- a list that ascends

pub tail_ascends : (x : ℕ) (ns : List ℕ) → rising itself x ns ≡ true → ascending ns ≡ true
unfolding rising
tail_ascends x [] e = refl
tail_ascends x (y ∷ ys) e = and_right (ltb x y) _ e

head-below : (x : ℕ) (ns : List ℕ) (k : ℕ) → rising itself x ns ≡ true → k < length ns → x < get_or ns k 0
unfolding rising
head-below x [] k e h = absurd (omega arith)
head-below x (y ∷ ys) zero e h = ltb-true x y (and_left (ltb x y) _ e)
head-below x (y ∷ ys) (suc k) e h =
    let l : x < y = ltb-true x y (and_left (ltb x y) _ e) in
    let r : y < get_or ys k 0 = head-below y ys k (and_right (ltb x y) _ e) (omega arith) in
    omega arith

-- its last number is its largest
pub last_decides : (limit : ℕ) (ns : List ℕ) (k : ℕ) → ascending ns ≡ true → length ns ≡ suc k → leb (get_or ns k 0) limit ≡ all (at_most limit) ns
unfolding all rising
last_decides limit [] k e h = absurd (omega arith)
last_decides limit (x ∷ []) zero e h = go (leb x limit)
  where
    go : (b : Bool) → b ≡ (b && true)
    go true = refl
    go false = refl
last_decides limit (x ∷ []) (suc k) e h = absurd (omega arith)
last_decides limit (x ∷ y ∷ ys) zero e h = absurd (omega arith)
last_decides limit (x ∷ y ∷ ys) (suc k) e h =
    let l : x < y = ltb-true x y (and_left (ltb x y) _ e) in
    last_decides limit (y ∷ ys) k (and_right (ltb x y) _ e) (omega arith)
    ∙ go (leb y limit) (all (at_most limit) ys) (λ t. le-leb x limit (omega (arith, leb-true y limit t)))
  where
    none : (a : Bool) → false ≡ (a && false)
    none true = refl
    none false = refl

    go : (a b : Bool) → (a ≡ true → leb x limit ≡ true) → (a && b) ≡ (leb x limit && (a && b))
    go true b f = ap (λ (z : Bool). z && b) (sym (f refl))
    go false b f = none (leb x limit)

-- the place of a number, by the one before it and the one there
pub seat_between : (n : ℕ) (ns : List ℕ) (j : ℕ) → ascending ns ≡ true → j ≤ length ns → ((i : ℕ) → j ≡ suc i → get_or ns i 0 < n)
    → (j < length ns → n ≤ get_or ns j 0) → j ≡ seat_of n ns
unfolding seat_of front rising
seat_between n [] j e h a b = omega arith
seat_between n (x ∷ xs) zero e h a b = rw (le-ltb x n (b (omega arith)))
seat_between n (x ∷ xs) (suc j) e h a b =
    let lt : x < n = low j refl in
    let r : j ≡ front (under n) xs = seat_between n xs j (tail_ascends x xs e) (omega arith) (λ i q. a (suc i) (ap suc q)) (λ k. b (omega arith)) in
    rw (lt-ltb x n lt) (ap suc r)
  where
    low : (i : ℕ) → j ≡ i → x < n
    low zero q = let z : get_or (x ∷ xs) 0 0 < n = a 0 (ap suc q) in z
    low (suc i) q =
        let z : get_or xs i 0 < n = a (suc i) (ap suc q) in
        let y : x < get_or xs i 0 = head-below x xs i e (omega arith) in
        omega arith

module _ (from : ℕ) (w : List ℕ) (n : ℕ) (few : n ≤ 512) (room : from + 512 ≤ length w) (up : ascending (firsts from n w) ≡ true) where
  size : length (firsts from n w) ≡ n
  size = length-take-le n (section from 512 w) (omega (arith, section-length from w room))

  found : (i : ℕ) → i < n → at (firsts from n w) i ≡ at w (from + i)
  found i h = get_or-take n (section from 512 w) i 0 h ∙ section-at from w i (omega arith)

  pub most_last : (limit : ℕ) → (n ≡ 0 → ⊥) → leb (at w (from + (n - 1))) limit ≡ all (at_most limit) (firsts from n w)
  most_last limit e =
      let h : 0 < n = pos n e in
      ap (λ (x : ℕ). leb x limit) (sym (found (n - 1) (omega arith))) ∙ last_decides limit (firsts from n w) (n - 1) up (omega (arith, size))

-- the same of the run of words that the code lends
module _ (from n : ℕ) (w : List ℕ) (few : n ≤ 512) (up : ascending (firsts from n w) ≡ true) (x : ℕ) where
  abbrev pub run : List ℕ
  run = take (from + n - from) (drop from w)

  run-seat : (j : ℕ) → j ≤ length run → ((i : ℕ) → j ≡ suc i → get_or run i 0 < x) → (j < length run → x ≤ get_or run j 0) → j ≡ seat_of x (firsts from n w)
  run-seat j h a b =
      let e : run ≡ firsts from n w = run_is from n w few in
      seat_between x run j (ap ascending e ∙ up) h a b ∙ ap (seat_of x) e

  pub seat_after : (j : ℕ) → j < length run → get_or run j 0 < x → ((k : ℕ) → j + 1 ≤ k → k < length run → x ≤ get_or run k 0) → j + 1 ≡ seat_of x (firsts from n w)
  seat_after j h below above =
      run-seat (j + 1) (omega arith)
      (λ i e. let s : j ≡ i = omega arith in subst (λ (k : ℕ). get_or run k 0 < x) s below)
      (λ l. above (j + 1) (omega arith) l)

  pub seat_first : ((k : ℕ) → k < length run → x ≤ get_or run k 0) → 0 ≡ seat_of x (firsts from n w)
  seat_first above = run-seat 0 (omega arith) (λ i e. absurd (omega arith)) (λ l. above 0 l)

pub most_none : (from : ℕ) (w : List ℕ) (n limit : ℕ) → n ≡ 0 → true ≡ all (at_most limit) (firsts from n w)
unfolding all
most_none from w n limit e = sym (ap (λ (k : ℕ). all (at_most limit) (firsts from k w)) e)
