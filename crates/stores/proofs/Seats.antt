-- Where an element goes by its number, and a front that goes. Assumes nothing.
use Rattle.std.specs.Prelude.{if◌then◌else◌}
use mathlib.Core.Path.{◌≡◌, refl, sym, ap, ◌∙◌}
use mathlib.Core.Bool.{Bool, true, false, ◌||◌, true≢false}
use mathlib.Core.List.{List, [], ◌∷◌, ◌++◌}
use Prim.Native.Nat.{ℕ, suc, ◌≤◌, ◌<◌}
use native.Mathlib.Omega.{arith}
use lib.ListN.{length, take, drop, get_or}
use lib.Dec.{ltb, leb, eqb}
use borrow.Author.Tests.{lt-ltb, le-ltb, leb-true, leb-false, ltb-true, ltb-false, eqb-false}
use Rattle.rules.specs.Lists.{any, kept, put, rising}
use Rattle.rules.proofs.Lists.{if_rule, and_left, and_right}
use Rattle.stores.specs.Fronts.{front}

pub front-within : {A : Type 0} (p : A → Bool) (xs : List A) → front p xs ≤ length xs
unfolding front
front-within p [] = omega arith
front-within p (x ∷ xs) =
    let r : front p xs ≤ length xs = front-within p xs in
    if_rule (λ (k : ℕ). k ≤ suc (length xs)) (p x) (suc (front p xs)) 0 (λ e. omega arith) (λ e. omega arith)

module _ {A : Type 0} (number : A → ℕ) where
  -- by their numbers: below n, up to n, above n, n itself
  abbrev pub below : ℕ → A → Bool
  below n x = ltb (number x) n

  abbrev pub upto : ℕ → A → Bool
  upto n x = leb (number x) n

  abbrev pub past : ℕ → A → Bool
  past n x = ltb n (number x)

  abbrev pub is : ℕ → A → Bool
  is n x = eqb (number x) n

  -- k is where a goes: it stands there, or goes between what is before and what is from there on
  pub record Seated (a : A) (xs : List A) (d : A) (k : ℕ) : Type 0 where
    pub within : k ≤ length xs
    pub old : k < length xs → number (get_or xs k d) ≡ number a → put number a xs ≡ xs
    pub new : (k < length xs → number (get_or xs k d) ≡ number a → ⊥) → put number a xs ≡ take k xs ++ (a ∷ drop k xs)

  ne_lt : {a b : ℕ} → a ≤ b → (b ≡ a → ⊥) → a < b
  ne_lt {a} {b} p q = if_rule (λ (z : ℕ). a < b) (ltb a b) 0 0 (λ t. ltb-true a b t) (λ t. absurd (q (omega (arith, ltb-false a b t))))

  pub seated : (a : A) (xs : List A) (d : A) → Seated a xs d (front (below (number a)) xs)
  unfolding front put
  seated a [] d = record { within = omega arith; old = λ h e. absurd (omega arith); new = λ h. refl }
  seated a (x ∷ xs) d = go (ltb (number x) (number a)) refl (seated a xs d)
    where
      go : (t : Bool) → ltb (number x) (number a) ≡ t → Seated a xs d (front (below (number a)) xs)
          → Seated a (x ∷ xs) d (if t then suc (front (below (number a)) xs) else 0)
      go true e r =
          let lt : number x < number a = ltb-true (number x) (number a) e in
          let step : put number a (x ∷ xs) ≡ x ∷ put number a xs = rw (le-ltb (number a) (number x) (omega arith), e) refl in
          record {
            within = omega (arith, r.within);
            old = λ h q. step ∙ ap (λ (l : List A). x ∷ l) (r.old (omega arith) q);
            new = λ h. step ∙ ap (λ (l : List A). x ∷ l) (r.new (λ i q. h (omega arith) q));
          }
      go false e r =
          let le : number a ≤ number x = ltb-false (number x) (number a) e in
          record {
            within = omega arith;
            old = λ h q. let z : number x ≡ number a = q in rw (le-ltb (number a) (number x) (omega arith), e) refl;
            new = λ h.
                let lt : number a < number x = ne_lt le (λ q. h (omega arith) q) in
                rw (lt-ltb (number a) (number x) lt) refl;
          }

  -- where no element has the number, what is up to it is what is below it
  pub front_upto : (n : ℕ) (xs : List A) → any (is n) xs ≡ false → front (upto n) xs ≡ front (below n) xs
  unfolding front any
  front_upto n [] e = refl
  front_upto n (x ∷ xs) e = go (eqb (number x) n) refl e (front_upto n xs)
    where
      agree : (number x ≡ n → ⊥) → leb (number x) n ≡ ltb (number x) n
      agree q =
          if_rule (λ (z : ℕ). leb (number x) n ≡ ltb (number x) n) (leb (number x) n) 0 0
          (λ t. t ∙ sym (lt-ltb (number x) n (ne_lt (leb-true (number x) n t) (λ z. q (sym z)))))
          (λ t. t ∙ sym (le-ltb (number x) n (omega (arith, leb-false (number x) n t))))

      go : (t : Bool) → eqb (number x) n ≡ t → (t || any (is n) xs) ≡ false → (any (is n) xs ≡ false → front (upto n) xs ≡ front (below n) xs)
          → (if leb (number x) n then suc (front (upto n) xs) else 0) ≡ (if ltb (number x) n then suc (front (below n) xs) else 0)
      go true q f r = absurd (true≢false f)
      go false q f r =
          ap (λ (k : ℕ). if leb (number x) n then suc k else 0) (r f)
          ∙ ap (λ (b : Bool). if b then suc (front (below n) xs) else 0) (agree (eqb-false (number x) n q))

  -- and what stands where it goes has another one
  not_there : (n : ℕ) (ys : List A) (d : A) → any (is n) ys ≡ false → front (below n) ys < length ys → number (get_or ys (front (below n) ys) d) ≡ n → ⊥
  unfolding front any
  not_there n [] d f h q = omega arith
  not_there n (y ∷ ys) d f h q = go (eqb (number y) n) refl (ltb (number y) n) f h q (not_there n ys d)
    where
      go : (t : Bool) → eqb (number y) n ≡ t → (b : Bool) → (t || any (is n) ys) ≡ false → (if b then suc (front (below n) ys) else 0) < suc (length ys)
          → number (get_or (y ∷ ys) (if b then suc (front (below n) ys) else 0) d) ≡ n
          → (any (is n) ys ≡ false → front (below n) ys < length ys → number (get_or ys (front (below n) ys) d) ≡ n → ⊥) → ⊥
      go true et b f h q r = true≢false f
      go false et true f h q r = r f (omega arith) q
      go false et false f h q r = eqb-false (number y) n et q

  -- so a new element goes after all that is up to its number
  pub put-after : (a : A) (xs : List A) → any (is (number a)) xs ≡ false
      → put number a xs ≡ take (front (upto (number a)) xs) xs ++ (a ∷ drop (front (upto (number a)) xs) xs)
  put-after a xs e =
      (seated a xs a).new (not_there (number a) xs a e) ∙ ap (λ (j : ℕ). take j xs ++ (a ∷ drop j xs)) (sym (front_upto (number a) xs e))

  all_past : (m n : ℕ) (ys : List A) → n ≤ m → rising number m ys ≡ true → kept (past n) ys ≡ ys
  unfolding kept rising
  all_past m n [] h q = refl
  all_past m n (y ∷ ys) h q =
      let lt : m < number y = ltb-true m (number y) (and_left (ltb m (number y)) _ q) in
      rw (lt-ltb n (number y) (omega arith)) (ap (λ (l : List A). y ∷ l) (all_past (number y) n ys (omega arith) (and_right (ltb m (number y)) _ q)))

  -- of a rising list, what is past a number is what is left when the front up to it goes
  pub kept-past : (last n : ℕ) (xs : List A) → rising number last xs ≡ true → kept (past n) xs ≡ drop (front (upto n) xs) xs
  unfolding kept rising front
  kept-past last n [] r = refl
  kept-past last n (x ∷ xs) r = go (leb (number x) n) refl (kept-past (number x) n xs (and_right (ltb last (number x)) _ r))
    where
      on : rising number (number x) xs ≡ true
      on = and_right (ltb last (number x)) _ r

      go : (t : Bool) → leb (number x) n ≡ t → kept (past n) xs ≡ drop (front (upto n) xs) xs
          → (if ltb n (number x) then (x ∷ kept (past n) xs) else kept (past n) xs) ≡ drop (if t then suc (front (upto n) xs) else 0) (x ∷ xs)
      go true e k = rw (le-ltb n (number x) (leb-true (number x) n e)) k
      go false e k =
          let lt : n < number x = leb-false (number x) n e in
          rw (lt-ltb n (number x) lt) (ap (λ (l : List A). x ∷ l) (all_past (number x) n xs (omega arith) on))
