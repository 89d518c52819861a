-- The laws of numbers as text. Assumes nothing.
use Rattle.std.specs.Prelude.{if◌then◌else◌, Some, None}
use mathlib.Core.Path.{◌≡◌, refl, sym, ap, ◌∙◌}
use mathlib.Core.Bool.{Bool, true, false, ◌&&◌}
use mathlib.Core.List.{List, [], ◌∷◌}
use Prim.Native.Nat.{ℕ, ◌+◌, ◌-◌, ◌*◌, ◌/◌, ◌≤◌, ◌<◌}
use native.Mathlib.Omega.{arith}
use native.Mathlib.Nat.{le-div_iff_mul-le, div-lt_iff_lt-mul, le-mul_of_pos_right}
use native.Mathlib.Numerals.{add-one}
use lib.Dec.{leb}
use lib.ListN.{length, drop, get_or, drop_of_length-le}
use lib.Seq.{drop-cons}
use borrow.Author.Tests.{ltb-true, leb-true, leb-false, lt-ltb, le-ltb, le-leb, lt-leb, eq-eqb, ne_eqb}
use Rattle.rules.specs.Lists.{all}
use Rattle.text.specs.Numbers.{digit_of, is_digit_byte, value, onward, number_of, hex16_of}

abbrev most : ℕ
most = 18446744073709551615

-- ---- a digit

pub digit_low : (b : ℕ) → 48 ≤ b → b < 58 → digit_of b ≡ b - 48
unfolding digit_of
digit_low b h k = let l : leb b 57 ≡ true = le-leb b 57 (omega arith) in simp (le-leb 48 b h, l)

pub digit_high : (b : ℕ) → 97 ≤ b → b < 103 → digit_of b ≡ b - 97 + 10
unfolding digit_of
digit_high b h k =
    let l : leb b 57 ≡ false = lt-leb b 57 (omega arith) in
    let m : leb 48 b ≡ true = le-leb 48 b (omega arith) in
    let n : leb b 102 ≡ true = le-leb b 102 (omega arith) in
    simp (m, l, le-leb 97 b h, n) (omega arith)

pub digit_below : (b : ℕ) → b < 48 → digit_of b ≡ 16
unfolding digit_of
digit_below b h =
    let k : leb 48 b ≡ false = lt-leb 48 b h in
    let l : leb 97 b ≡ false = lt-leb 97 b (omega arith) in
    simp (k, l)

pub digit_between : (b : ℕ) → 57 < b → b < 97 → digit_of b ≡ 16
unfolding digit_of
digit_between b h k =
    let l : leb 48 b ≡ true = le-leb 48 b (omega arith) in
    simp (l, lt-leb b 57 h, lt-leb 97 b k)

pub digit_above : (b : ℕ) → 102 < b → digit_of b ≡ 16
unfolding digit_of
digit_above b h =
    let k : leb 48 b ≡ true = le-leb 48 b (omega arith) in
    let l : leb b 57 ≡ false = lt-leb b 57 (omega arith) in
    let m : leb 97 b ≡ true = le-leb 97 b (omega arith) in
    simp (k, l, m, lt-leb b 102 h)

-- ---- a number

module _ (base n : ℕ) (b : ℕ) where
  digit_wrong : (bs : List ℕ) → is_digit_byte base b ≡ false → onward base n (b ∷ bs) ≡ None
  unfolding onward all
  digit_wrong bs e = rw e

  digit_only : digit_of b < base → onward base n (b ∷ []) ≡ (if leb (n * base + digit_of b) most then Some (n * base + digit_of b) else None)
  unfolding onward all value is_digit_byte
  digit_only h = rw (lt-ltb (digit_of b) base h)

-- one digit after those for n, by the tests of the code: d is the digit, and the second test comes before the product
module _ (base n b : ℕ) {d : ℕ} (e : d ≡ digit_of b) where
  pub digit_none : base ≤ d → None ≡ onward base n (b ∷ [])
  unfolding is_digit_byte
  digit_none h = sym (digit_wrong base n b [] (le-ltb (digit_of b) base (omega arith)))

  pub digit_much : 0 < base → d < base → d ≤ most → (most - d) / base < n → None ≡ onward base n (b ∷ [])
  digit_much p h m q =
      let l : most - d < n * base = (div-lt_iff_lt-mul p).0 q in
      let f : leb (n * base + digit_of b) most ≡ false = lt-leb (n * base + digit_of b) most (omega arith) in
      sym (digit_only base n b (omega arith) ∙ rw f)

  pub digit_fits : d < base → n * base + d ≤ most → Some (n * base + d) ≡ onward base n (b ∷ [])
  digit_fits h k =
      let f : leb (n * base + digit_of b) most ≡ true = le-leb (n * base + digit_of b) most (omega arith) in
      ap (λ (x : ℕ). Some (n * base + x)) e ∙ sym (digit_only base n b (omega arith) ∙ rw f)

pub digit_room : (base n d : ℕ) → 0 < base → d ≤ most → n ≤ (most - d) / base → n * base + d ≤ most
digit_room base n d p m q = let l : n * base ≤ most - d = (le-div_iff_mul-le p).0 q in omega arith

-- more digits make a number no smaller
value_grows : (base : ℕ) → 0 < base → (n : ℕ) (bs : List ℕ) → n ≤ value base n bs
unfolding value
value_grows base p n [] = omega arith
value_grows base p n (b ∷ bs) = omega (arith, value_grows base p (n * base + digit_of b) bs, le-mul_of_pos_right n p)

apart : {m : ℕ} → Some m ≡ None → ⊥
apart h = let z : ◌≡◌ {A = ℕ} 0 1 = cc in omega arith

same : {k m : ℕ} → Some k ≡ Some m → k ≡ m
same h = cc

-- a digit that was read, and those after it
module _ (base n : ℕ) (b : ℕ) (bs : List ℕ) (p : 0 < base) where
  rest-fits : is_digit_byte base b ≡ true → onward base n (b ∷ bs) ≡ onward base (n * base + digit_of b) bs
  unfolding onward all value
  rest-fits e = rw e

  rest_much : most < n * base + digit_of b → onward base (n * base + digit_of b) bs ≡ None
  unfolding onward
  rest_much h =
      let e : leb (value base (n * base + digit_of b) bs) most ≡ false =
      lt-leb (value base (n * base + digit_of b) bs) most (omega (arith, value_grows base p (n * base + digit_of b) bs)) in
      go (all (is_digit_byte base) bs) (value base (n * base + digit_of b) bs) e
    where
      go : (t : Bool) (m : ℕ) {u : Bool} → u ≡ false → (if t && u then Some m else None) ≡ None
      go true m e = rw e
      go false m e = refl

  -- by whether b is a digit, and whether a u64 holds the number with it
  by_digit : (t u : Bool) → is_digit_byte base b ≡ t → leb (n * base + digit_of b) most ≡ u
      → ((m : ℕ) → onward base n (b ∷ []) ≡ Some m → (onward base n (b ∷ bs) ≡ onward base m bs) × (m ≤ most))
      × (onward base n (b ∷ []) ≡ None → onward base n (b ∷ bs) ≡ None)
  unfolding is_digit_byte
  by_digit false u e f =
      let none : onward base n (b ∷ []) ≡ None = digit_wrong base n b [] e in
      ((λ m h. absurd (apart (sym h ∙ none))), λ h. digit_wrong base n b bs e)
  by_digit true true e f =
      let one : onward base n (b ∷ []) ≡ Some (n * base + digit_of b) = sym (digit_fits base n b refl (ltb-true (digit_of b) base e) (leb-true _ _ f)) in
      ((λ m h. (rest-fits e ∙ ap (λ (k : ℕ). onward base k bs) (same (sym one ∙ h)), omega (arith, leb-true (n * base + digit_of b) most f, same (sym one ∙ h)))), λ h. absurd (apart (sym one ∙ h)))
  by_digit true false e f =
      let more : most < n * base + digit_of b = leb-false _ _ f in
      let none : onward base n (b ∷ []) ≡ None = digit_only base n b (ltb-true (digit_of b) base e) ∙ rw f in
      ((λ m h. absurd (apart (sym h ∙ none))), λ h. rest-fits e ∙ rest_much more)

-- What the loop over the digits keeps: the digits from index i on, after those for n, stand for what all of them stand for
pub record Reading (base : ℕ) (s : List ℕ) (n i : ℕ) : Type 0 where
  pub some_base : 0 < base
  pub within : i ≤ length s
  pub fits : n ≤ most
  pub left : onward base n (drop i s) ≡ number_of base s

pub reading_none : (base : ℕ) (s : List ℕ) → 0 < base → (length s ≡ 0 → ⊥) → Reading base s 0 0
unfolding number_of
reading_none base [] p h = absurd (h refl)
reading_none base (b ∷ bs) p h = record { some_base = p; within = omega arith; fits = omega arith; left = refl }

pub number-none : (base : ℕ) (s : List ℕ) → length s ≡ 0 → number_of base s ≡ None
unfolding number_of
number-none base [] h = refl
number-none base (b ∷ bs) h = absurd (omega arith)

module _ {base : ℕ} {s : List ℕ} {n i : ℕ} (r : Reading base s n i) where
  cons : i < length s → drop i s ≡ get_or s i 0 ∷ drop (i + 1) s
  cons h = rw (add-one, drop-cons s i 0)

  pub reading_more : (m : ℕ) → i < length s → Some m ≡ onward base n (get_or s i 0 ∷ []) → Reading base s m (i + 1)
  reading_more m h e =
      let step : (onward base n (get_or s i 0 ∷ drop (i + 1) s) ≡ onward base m (drop (i + 1) s)) × (m ≤ most) =
      (by_digit base n (get_or s i 0) (drop (i + 1) s) r.some_base _ _ refl refl).0 m (sym e) in
      record {
        some_base = r.some_base;
        within = omega arith;
        fits = step.1;
        left = sym step.0 ∙ ap (onward base n) (sym (cons h)) ∙ r.left;
      }

  pub reading_wrong : i < length s → None ≡ onward base n (get_or s i 0 ∷ []) → None ≡ number_of base s
  reading_wrong h e =
      sym (ap (onward base n) (cons h) ∙ (by_digit base n (get_or s i 0) (drop (i + 1) s) r.some_base _ _ refl refl).1 (sym e)) ∙ r.left

  pub reading_all : length s ≤ i → Some n ≡ number_of base s
  unfolding onward all value
  reading_all h =
      let e : drop i s ≡ [] = drop_of_length-le s h in
      let l : leb n most ≡ true = le-leb n most r.fits in
      sym (ap (onward base n) e ∙ rw l) ∙ r.left

pub hex16_other : (s : List ℕ) → (length s ≡ 16 → ⊥) → hex16_of s ≡ None
unfolding hex16_of
hex16_other s h = rw (ne_eqb (length s) 16 h)

pub hex16_whole : (s : List ℕ) → length s ≡ 16 → hex16_of s ≡ number_of 16 s
unfolding hex16_of
hex16_whole s h = rw (eq-eqb (length s) 16 h)
