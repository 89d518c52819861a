-- What a chain of iterators answers, in the words of the rule book. A chain's test or size may be written another way: `same` says that it is the
-- same of each element. Assumes nothing.
use Rattle.std.specs.Prelude.{if◌then◌else◌}
use mathlib.Core.Path.{◌≡◌, refl, ap, ◌∙◌}
use mathlib.Core.Bool.{Bool, true, false}
use mathlib.Core.List.{List, [], ◌∷◌}
use Prim.Native.Nat.{ℕ, suc, ◌+◌}
use native.Mathlib.Omega.{arith}
use lib.Dec.{eqb}
use mir.Val.{bool_byte}
use Rattle.std.proofs.lemmas.Bool.Decides.{nat_tests}
use Rattle.std.specs.List.{list_any, list_all, prefix_len, sum_by}
use Rattle.std.proofs.lemmas.List.Sums.{sum_by-cons}
use Rattle.rules.specs.Lists.{any, all, total}
use Rattle.stores.specs.Fronts.{front}

module _ {A : Type 0} (p q : A → Bool) (same : (x : A) → p x ≡ q x) where
  pub any-list : (xs : List A) → list_any p xs ≡ any q xs
  unfolding any
  any-list [] = refl
  any-list (x ∷ xs) = rw (same x, any-list xs)

  pub all-list : (xs : List A) → list_all p xs ≡ all q xs
  unfolding all
  all-list [] = refl
  all-list (x ∷ xs) = rw (same x, all-list xs)

  pub front_prefix : (xs : List A) → prefix_len p xs ≡ front q xs
  unfolding front
  front_prefix [] = refl
  front_prefix (x ∷ xs) =
      let e : 1 + prefix_len p xs ≡ suc (front q xs) = omega (arith, front_prefix xs) in
      rw (same x) (ap (λ (n : ℕ). if q x then n else 0) e)

pub total-sum : {A : Type 0} (size : A → ℕ) (xs : List A) → sum_by size xs ≡ total size xs
unfolding total
total-sum size [] = refl
total-sum size (x ∷ xs) = sum_by-cons size x xs ∙ ap (λ (n : ℕ). size x + n) (total-sum size xs)

-- `==` asks its two sides in either order
pub eqb_flip : (a b : ℕ) → eqb a b ≡ eqb b a
eqb_flip a b = grind (arith, nat_tests)

-- a test as a number
pub byte-step : (t : Bool) → bool_byte t ≡ (if t then 1 else 0)
byte-step true = refl
byte-step false = refl
