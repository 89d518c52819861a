-- The laws of `cut` and `repacked`, and of arrays of records with a count. Assumes nothing.
use mathlib.Core.Path.{◌≡◌, refl, sym, ap, ◌∙◌}
use mathlib.Core.List.{List, [], ◌∷◌, ◌++◌, map, append_assoc}
use Prim.Native.Nat.{ℕ, zero, suc, ◌+◌, ◌-◌, ◌≤◌, ◌<◌, max}
use native.Mathlib.Omega.{arith}
use native.Mathlib.Nat.{add-zero, sub-zero, zero-sub, suc-sub-suc}
use lib.ListN.{length, take, drop, get_or, set, length-append, length-take, length-drop, take-append-drop, drop_of_length-le, replicate, length-replicate, replicate-append-replicate}
use native.Mathlib.Numerals.{add-one}
use lib.Seq.{set_split, take-nil, drop-nil, take-suc-set, take-set-lt, drop-set-lt, slice, slice-cons, take_at, drop_at, take-append-le, drop-append-le, take-take, drop-drop, take-add, length-take-le}
use Rattle.rules.specs.Lists.{total, packed}
use Rattle.rules.proofs.Lists.{total-append}
use Rattle.stores.specs.Packed.{cut}
use Rattle.rules.specs.Buffers.{repacked}
use Rattle.stores.specs.Placed.{placed}
use Rattle.stores.proofs.Laws.{length-placed, take_placed_le, drop-placed}

module _ {A : Type 0} (size : A → ℕ) where
  pub total_snoc : (us : List A) (u : A) → total size (us ++ (u ∷ [])) ≡ total size us + size u
  unfolding total
  total_snoc us u = total-append size us (u ∷ []) ∙ ap (λ (n : ℕ). total size us + n) (add-zero (size u))

module _ {A M : Type 0} (size : A → ℕ) (make : A → List ℕ → M) where
  pub cut-append : (us vs : List A) (s : List ℕ) → cut size make (us ++ vs) s ≡ cut size make us s ++ cut size make vs (drop (total size us) s)
  unfolding total cut
  cut-append [] vs s = refl
  cut-append (u ∷ us) vs s =
      ap (λ (l : List M). make u (take (size u) s) ∷ l)
      (cut-append us vs (drop (size u) s)
      ∙ ap (λ (l : List ℕ). cut size make us (drop (size u) s) ++ cut size make vs l) (drop-drop (total size us) (size u) s))

  -- what lies past the bodies is not looked at
  pub cut-front : (us : List A) (a b : List ℕ) → total size us ≤ length a → cut size make us (a ++ b) ≡ cut size make us a
  unfolding total cut
  cut-front [] a b h = refl
  cut-front (u ∷ us) a b h =
      let n : size u ≤ length a = omega arith in
      let l : length (drop (size u) a) ≡ length a - size u = length-drop (size u) a in
      ap (λ (l : List ℕ). make u l ∷ cut size make us (drop (size u) (a ++ b))) (take-append-le (size u) a b n)
      ∙ ap (λ (l : List M). make u (take (size u) a) ∷ l)
      (ap (λ (l : List ℕ). cut size make us l) (drop-append-le (size u) a b n) ∙ cut-front us (drop (size u) a) b (omega arith))

  pub cut-take : (us : List A) (s : List ℕ) (n : ℕ) → total size us ≤ n → n ≤ length s → cut size make us s ≡ cut size make us (take n s)
  cut-take us s n h k =
      let l : length (take n s) ≡ n = length-take-le n s k in
      ap (λ (l : List ℕ). cut size make us l) (sym (take-append-drop n s)) ∙ cut-front us (take n s) (drop n s) (omega arith)

  -- two stores that agree on the bodies
  pub cut-same : (us : List A) (s t : List ℕ) → total size us ≤ length s → total size us ≤ length t
      → take (total size us) s ≡ take (total size us) t → cut size make us s ≡ cut size make us t
  cut-same us s t h k e =
      let n : ℕ = total size us in
      let nn : n ≤ n = omega arith in
      cut-take us s n nn h ∙ ap (λ (l : List ℕ). cut size make us l) e ∙ sym (cut-take us t n nn k)

  pub length_cut : (us : List A) (s : List ℕ) → length (cut size make us s) ≡ length us
  unfolding cut
  length_cut [] s = refl
  length_cut (u ∷ us) s = ap suc (length_cut us (drop (size u) s))

  module _ (body : M → List ℕ) (same : (u : A) (b : List ℕ) → body (make u b) ≡ b) where
    -- the bodies that were cut, packed again
    pub packed-cut : (us : List A) (s : List ℕ) → packed body (cut size make us s) ≡ take (total size us) s
    unfolding total cut packed
    packed-cut [] s = refl
    packed-cut (u ∷ us) s =
        ap (λ (l : List ℕ). l ++ packed body (cut size make us (drop (size u) s))) (same u (take (size u) s))
        ∙ ap (λ (l : List ℕ). take (size u) s ++ l) (packed-cut us (drop (size u) s))
        ∙ sym (take-add (size u) (total size us) s)

-- a loop over the records from index i up to, not including, index n: one record more, and none left
module _ {A : Type 0} (l : List A) (i n : ℕ) where
  pub slice-step : (d : A) → i < n → n ≤ length l → slice i n l ≡ get_or l i d ∷ slice (i + 1) n l
  slice-step d h k = slice-cons i n l d h k ∙ ap (λ (j : ℕ). get_or l i d ∷ slice j n l) (sym (add-one i))

  pub slice-none : n ≤ i → slice i n l ≡ []
  slice-none h =
      let k : length (take n l) ≤ i = simp length-take (omega arith) in
      drop_of_length-le (take n l) k

module _ {A : Type 0} (size : A → ℕ) (l : List A) (i n : ℕ) where
  pub total-step : (d : A) → i < n → n ≤ length l → total size (slice i n l) ≡ size (get_or l i d) + total size (slice (i + 1) n l)
  unfolding total
  total-step d h k = ap (total size) (slice-step l i n d h k)

  pub total-none : n ≤ i → total size (slice i n l) ≡ 0
  unfolding total
  total-none h = ap (total size) (slice-none l i n h)

-- a record stored at index k, as the last of those before it and before the rest
module _ {A : Type 0} (l : List A) (k : ℕ) (a : A) where
  pub take_set_snoc : k < length l → take (k + 1) (set l k a) ≡ take k l ++ (a ∷ [])
  take_set_snoc h = ap (λ (j : ℕ). take j (set l k a)) (add-one k) ∙ take-suc-set l k a h

  pub slice_set : (i n : ℕ) → k < i → k < n → slice i n (set l k a) ≡ slice i n l
  slice_set i n h m = ap (drop i) (take-set-lt n l k a m) ∙ drop-set-lt i (take n l) k a h

-- A record type, a message type and how they go together: a record is made of a message by `rec`, a message of a record and its body by `make`.
pub record Packing {A M : Type 0} (size : A → ℕ) (make : A → List ℕ → M) (rec : M → A) (body : M → List ℕ) : Type 0 where
  pub size_rec : (m : M) → size (rec m) ≡ length (body m)
  pub make_rec : (m : M) → make (rec m) (body m) ≡ m
  pub rec_make : (u : A) (b : List ℕ) → length b ≡ size u → rec (make u b) ≡ u
  pub body_make : (u : A) (b : List ℕ) → body (make u b) ≡ b

module _ {A M : Type 0} {size : A → ℕ} {make : A → List ℕ → M} {rec : M → A} {body : M → List ℕ} (P : Packing size make rec body) where
  -- what is cut from a store is what was packed there
  pub cut-packed : (ms : List M) (t : List ℕ) → cut size make (map rec ms) (packed body ms ++ t) ≡ ms
  unfolding cut packed
  cut-packed [] t = refl
  cut-packed (m ∷ ms) t =
      let s : List ℕ = packed body ms ++ t in
      let e : (body m ++ packed body ms) ++ t ≡ body m ++ s = append_assoc (body m) (packed body ms) t in
      let et : take (size (rec m)) (body m ++ s) ≡ body m = take_at (body m) s (size (rec m)) (sym (P.size_rec m)) in
      let ed : drop (size (rec m)) (body m ++ s) ≡ s = drop_at (body m) s (size (rec m)) (sym (P.size_rec m)) in
      ap (λ (x : List ℕ). make (rec m) (take (size (rec m)) x) ∷ cut size make (map rec ms) (drop (size (rec m)) x)) e
      ∙ ap (λ (x : List ℕ). make (rec m) x ∷ cut size make (map rec ms) (drop (size (rec m)) (body m ++ s))) et
      ∙ ap (λ (x : M). x ∷ cut size make (map rec ms) (drop (size (rec m)) (body m ++ s))) (P.make_rec m)
      ∙ ap (λ (x : List ℕ). m ∷ cut size make (map rec ms) x) ed
      ∙ ap (λ (x : List M). m ∷ x) (cut-packed ms t)

  -- the records of the messages that were cut
  pub map-cut : (us : List A) (s : List ℕ) → total size us ≤ length s → map rec (cut size make us s) ≡ us
  unfolding cut total
  map-cut [] s h = refl
  map-cut (u ∷ us) s h =
      let l : length (take (size u) s) ≡ size u = length-take-le (size u) s (omega arith) in
      let ld : length (drop (size u) s) ≡ length s - size u = length-drop (size u) s in
      ap (λ (x : A). x ∷ map rec (cut size make us (drop (size u) s))) (P.rec_make u (take (size u) s) l)
      ∙ ap (λ (x : List A). u ∷ x) (map-cut us (drop (size u) s) (omega arith))

  pub length-packed : (ms : List M) → total size (map rec ms) ≡ length (packed body ms)
  unfolding total packed
  length-packed [] = refl
  length-packed (m ∷ ms) =
      ap (λ (n : ℕ). n + total size (map rec ms)) (P.size_rec m) ∙ ap (λ (n : ℕ). length (body m) + n) (length-packed ms) ∙ sym (length-append (body m) (packed body ms))

-- `map`, `take`, `drop` and `++`
module _ {A B : Type 0} (f : A → B) where
  pub map-append : (xs ys : List A) → map f (xs ++ ys) ≡ map f xs ++ map f ys
  map-append [] ys = refl
  map-append (x ∷ xs) ys = ap (λ (l : List B). f x ∷ l) (map-append xs ys)

  pub map-take : (n : ℕ) (xs : List A) → map f (take n xs) ≡ take n (map f xs)
  map-take zero xs = refl
  map-take (suc n) [] = refl
  map-take (suc n) (x ∷ xs) = ap (λ (l : List B). f x ∷ l) (map-take n xs)

  pub map-drop : (n : ℕ) (xs : List A) → map f (drop n xs) ≡ drop n (map f xs)
  map-drop zero xs = refl
  map-drop (suc n) [] = refl
  map-drop (suc n) (x ∷ xs) = map-drop n xs

-- a part, cut from either end first
pub drop-take : {A : Type 0} (i n : ℕ) (l : List A) → slice i n l ≡ take (n - i) (drop i l)
drop-take zero n l = ap (λ (k : ℕ). take k l) (sym (sub-zero n))
drop-take (suc i) zero l = drop-nil (suc i) ∙ ap (λ (k : ℕ). take k (drop (suc i) l)) (sym (zero-sub (suc i)))
drop-take (suc i) (suc n) [] = sym (take-nil (suc n - suc i))
drop-take (suc i) (suc n) (x ∷ xs) = drop-take i n xs ∙ ap (λ (k : ℕ). take k (drop i xs)) (sym (suc-sub-suc n i))

-- `repacked` where the bodies take as much room as before or more, and where they take as much or less
module _ (n : ℕ) (b s : List ℕ) where
  pub repacked-grown : n ≤ length b → repacked n b s ≡ b ++ drop (length b) s
  unfolding repacked
  repacked-grown h =
      let z : n - length b ≡ 0 = omega arith in
      let m : max n (length b) ≡ length b = omega arith in
      ap (λ (k : ℕ). b ++ (replicate k 0 ++ drop (max n (length b)) s)) z ∙ ap (λ (k : ℕ). b ++ drop k s) m

  pub repacked_shrunk : length b ≤ n → repacked n b s ≡ b ++ (replicate (n - length b) 0 ++ drop n s)
  unfolding repacked
  repacked_shrunk h =
      let m : max n (length b) ≡ n = omega arith in
      ap (λ (k : ℕ). b ++ (replicate (n - length b) 0 ++ drop k s)) m

-- `take` and `drop` of what is cut
module _ {A M : Type 0} (size : A → ℕ) (make : A → List ℕ → M) where
  pub take-cut : (k : ℕ) (us : List A) (s : List ℕ) → take k (cut size make us s) ≡ cut size make (take k us) s
  unfolding cut
  take-cut zero us s = refl
  take-cut (suc k) [] s = refl
  take-cut (suc k) (u ∷ us) s = ap (λ (l : List M). make u (take (size u) s) ∷ l) (take-cut k us (drop (size u) s))

  pub drop-cut : (k : ℕ) (us : List A) (s : List ℕ) → drop k (cut size make us s) ≡ cut size make (drop k us) (drop (total size (take k us)) s)
  unfolding cut total
  drop-cut zero us s = refl
  drop-cut (suc k) [] s = refl
  drop-cut (suc k) (u ∷ us) s =
      drop-cut k us (drop (size u) s) ∙ ap (λ (l : List ℕ). cut size make (drop k us) l) (drop-drop (total size (take k us)) (size u) s)

  pub total_split : (k : ℕ) (us : List A) → total size (take k us) + total size (drop k us) ≡ total size us
  total_split k us = sym (total-append size (take k us) (drop k us)) ∙ ap (total size) (take-append-drop k us)

-- A place made in the middle of a list, and one closed
module _ {A : Type 0} (l : List A) (k n : ℕ) where
  pub opened : (u : A) → k ≤ n → n < length l
      → take (n + 1) (set (placed l (k + 1) (take (n - k) (drop k l))) k u) ≡ take k (take n l) ++ (u ∷ drop k (take n l))
  opened u h m =
      let B : List A = take (n - k) (drop k l) in
      let lb : length B ≡ n - k = simp (length-take, length-drop) (omega arith) in
      let room : k + 1 + length B ≤ length l = omega arith in
      let l' : List A = placed l (k + 1) B in
      let ll : length l' ≡ length l = length-placed l (k + 1) B room in
      let e1 : set l' k u ≡ take k l' ++ (u ∷ drop (suc k) l') = set_split l' k u (omega arith) in
      let e2 : take k l' ≡ take k l = take_placed_le l (k + 1) B room k (omega arith) in
      let e3 : drop (suc k) l' ≡ B ++ drop (k + 1 + length B) l = ap (λ (j : ℕ). drop j l') (sym (add-one k)) ∙ drop-placed l (k + 1) B room in
      let lk : length (take k l) ≡ k = length-take-le k l (omega arith) in
      let front : length (take k l ++ (u ∷ B)) ≡ n + 1 = length-append (take k l) (u ∷ B) ∙ omega arith in
      let tn : take k (take n l) ≡ take k l = take-take k n l h in
      let dn : drop k (take n l) ≡ B = drop-take k n l in
      ap (take (n + 1)) (e1 ∙ ap (λ (x : List A). x ++ (u ∷ drop (suc k) l')) e2 ∙ ap (λ (x : List A). take k l ++ (u ∷ x)) e3 ∙ sym (append_assoc (take k l) (u ∷ B) (drop (k + 1 + length B) l)))
      ∙ take_at (take k l ++ (u ∷ B)) (drop (k + 1 + length B) l) (n + 1) front
      ∙ ap (λ (x : List A). x ++ (u ∷ B)) (sym tn)
      ∙ ap (λ (x : List A). take k (take n l) ++ (u ∷ x)) (sym dn)

pub drop-replicate : {A : Type 0} (k n : ℕ) (a : A) → drop k (replicate n a) ≡ replicate (n - k) a
drop-replicate zero n a = ap (λ (j : ℕ). replicate j a) (sym (sub-zero n))
drop-replicate (suc k) zero a = ap (λ (j : ℕ). replicate j a) (sym (zero-sub (suc k)))
drop-replicate (suc k) (suc n) a = drop-replicate k n a ∙ ap (λ (j : ℕ). replicate j a) (sym (suc-sub-suc n k))

-- `repacked` keeps the store's length, and the bytes past the bodies 0
module _ (n : ℕ) (b s : List ℕ) (h : n ≤ length s) (m : length b ≤ length s) where
  pub length-repacked : length (repacked n b s) ≡ length s
  unfolding repacked
  length-repacked = simp (length-append, length-replicate, length-drop) (omega arith)

  pub repacked_tail : drop n s ≡ replicate (length s - n) 0 → drop (length b) (repacked n b s) ≡ replicate (length s - length b) 0
  unfolding repacked
  repacked_tail e =
      let k : ℕ = max n (length b) - n in
      let ek : max n (length b) ≡ n + k = omega arith in
      let sum : n - length b + (length s - n - k) ≡ length s - length b = omega arith in
      drop_at b (replicate (n - length b) 0 ++ drop (max n (length b)) s) (length b) refl
      ∙ ap (λ (j : ℕ). replicate (n - length b) 0 ++ drop j s) ek
      ∙ ap (λ (x : List ℕ). replicate (n - length b) 0 ++ x) (sym (drop-drop k n s) ∙ ap (drop k) e ∙ drop-replicate k (length s - n) 0)
      ∙ replicate-append-replicate (n - length b) (length s - n - k) 0
      ∙ ap (λ (j : ℕ). replicate j 0) sum
