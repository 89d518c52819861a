-- Lists by what stands at each index. Assumes nothing.
use Rattle.std.specs.Prelude.{if◌then◌else◌}
use Prim.Native.Nat.{ℕ, zero, suc, ◌+◌, ◌-◌, ◌≤◌, ◌<◌}
use mathlib.Core.Path.{◌≡◌, refl, sym, ap, ◌∙◌}
use mathlib.Core.Bool.{Bool}
use mathlib.Core.List.{List, [], ◌∷◌, ◌++◌, map}
use native.Mathlib.Numerals.{add-one}
use native.Mathlib.Omega.{arith}
use lib.ListN.{length, take, drop, get_or, length-drop}
use lib.Seq.{slice, slice-cons, ext_get_or, get_or-take, get_or-drop, length-take-le}
use Rattle.rules.specs.Lists.{total}
use Rattle.stores.specs.Fronts.{front}
use Rattle.parts.specs.Seats.{seats}

module _ {A : Type 0} where
  pub length-seats : (n : ℕ) (f : ℕ → A) → length (seats n f) ≡ n
  unfolding seats
  length-seats zero f = refl
  length-seats (suc n) f = ap suc (length-seats n (λ i. f (suc i)))

  pub get_d_seats : (n : ℕ) (f : ℕ → A) (i : ℕ) (d : A) → i < n → get_or (seats n f) i d ≡ f i
  unfolding seats
  get_d_seats zero f i d h = absurd (omega arith)
  get_d_seats (suc n) f zero d h = refl
  get_d_seats (suc n) f (suc i) d h = get_d_seats n (λ i. f (suc i)) i d (omega arith)

  -- what stands at each index settles it
  pub seats-same : (n : ℕ) (f g : ℕ → A) → ((i : ℕ) → i < n → f i ≡ g i) → seats n f ≡ seats n g
  unfolding seats
  seats-same zero f g h = refl
  seats-same (suc n) f g h =
      ap (λ (x : A). x ∷ seats n (λ i. f (suc i))) (h 0 (omega arith))
      ∙ ap (λ (l : List A). g 0 ∷ l) (seats-same n (λ i. f (suc i)) (λ i. g (suc i)) (λ i k. h (suc i) (omega arith)))

  pub seats_of : (n : ℕ) (f : ℕ → A) (l : List A) (d : A) → length l ≡ n → ((i : ℕ) → i < n → get_or l i d ≡ f i) → l ≡ seats n f
  seats_of n f l d e h =
      ext_get_or d l (seats n f) (e ∙ sym (length-seats n f)) (λ i k. let k' : i < n = omega (arith, e) in h i k' ∙ sym (get_d_seats n f i d k'))

  pub take-seats : (k n : ℕ) (f : ℕ → A) → k ≤ n → take k (seats n f) ≡ seats k f
  unfolding seats
  take-seats zero n f h = refl
  take-seats (suc k) zero f h = absurd (omega arith)
  take-seats (suc k) (suc n) f h = ap (λ (l : List A). f 0 ∷ l) (take-seats k n (λ i. f (suc i)) (omega arith))

  pub seats_snoc : (n : ℕ) (f : ℕ → A) → seats (n + 1) f ≡ seats n f ++ (f n ∷ [])
  unfolding seats
  seats_snoc zero f = refl
  seats_snoc (suc n) f = rw add-one (ap (λ (l : List A). f 0 ∷ l) (sym (ap (λ (k : ℕ). seats k (λ i. f (suc i))) (add-one n)) ∙ seats_snoc n (λ i. f (suc i))))

  -- from index i up to index n, of m elements: what stands at i, and the rest
  pub slice-seats : (i n m : ℕ) (f : ℕ → A) → i < n → n ≤ m → slice i n (seats m f) ≡ f i ∷ slice (i + 1) n (seats m f)
  slice-seats i n m f h k =
      let at : get_or (seats m f) i (f i) ≡ f i = get_d_seats m f i (f i) (omega arith) in
      slice-cons i n (seats m f) (f i) h (omega (arith, length-seats m f))
      ∙ ap (λ (x : A). x ∷ slice (suc i) n (seats m f)) at
      ∙ ap (λ (j : ℕ). f i ∷ slice j n (seats m f)) (sym (add-one i))

module _ {A B : Type 0} where
  pub map-seats : (g : A → B) (n : ℕ) (f : ℕ → A) → map g (seats n f) ≡ seats n (λ i. g (f i))
  unfolding seats
  map-seats g zero f = refl
  map-seats g (suc n) f = ap (λ (l : List B). g (f 0) ∷ l) (map-seats g n (λ i. f (suc i)))

-- ---- a run of k numbers from index i on, as the code lends it, of records that stand there

module _ {A : Type 0} (size : A → ℕ) where
  pub run_is : (i k : ℕ) (f : ℕ → A) (l : List ℕ) → i + k ≤ length l → ((j : ℕ) → j < k → size (f j) ≡ get_or l (i + j) 0) → take (i + k - i) (drop i l) ≡ map size (seats k f)
  run_is i k f l room is =
      let e : i + k - i ≡ k = omega arith in
      let n : length (take k (drop i l)) ≡ k = length-take-le k (drop i l) (omega (arith, length-drop i l)) in
      ap (λ (m : ℕ). take m (drop i l)) e
      ∙ seats_of k (λ j. size (f j)) (take k (drop i l)) 0 n (λ j h. get_or-take k (drop i l) j 0 h ∙ get_or-drop i l j 0 ∙ sym (is j h))
      ∙ sym (map-seats size k f)

  pub total-map : (g : ℕ → ℕ) (xs : List A) → total g (map size xs) ≡ total (λ x. g (size x)) xs
  unfolding total
  total-map g [] = refl
  total-map g (x ∷ xs) = ap (λ (k : ℕ). g (size x) + k) (total-map g xs)

  pub front-map : (p : ℕ → Bool) (xs : List A) → front p (map size xs) ≡ front (λ x. p (size x)) xs
  unfolding front
  front-map p [] = refl
  front-map p (x ∷ xs) = ap (λ (k : ℕ). if p (size x) then suc k else 0) (front-map p xs)
