-- A loop over the elements from index i up to, not including, index n: what is asked of them, by the test of the first. Assumes nothing.
use mathlib.Core.Path.{◌≡◌, ap, ◌∙◌}
use mathlib.Core.Bool.{Bool, true, false, ◌&&◌}
use mathlib.Core.List.{List}
use Prim.Native.Nat.{ℕ, ◌+◌, ◌≤◌, ◌<◌}
use lib.ListN.{length, get_or}
use lib.Seq.{slice}
use borrow.Author.Tests.{lt-ltb, le-ltb}
use Rattle.rules.specs.Lists.{all, rising}
use Rattle.stores.specs.Admitted.{admitted}
use Rattle.stores.proofs.Packs.{slice-step, slice-none}

-- ---- by a test

module _ {A : Type 0} (p : A → Bool) (l : List A) (i n : ℕ) (d : A) (h : i < n) (m : n ≤ length l) where
  pub all_not : p (get_or l i d) ≡ false → all p (slice i n l) ≡ false
  unfolding all
  all_not e = ap (all p) (slice-step l i n d h m) ∙ ap (λ (b : Bool). b && all p (slice (i + 1) n l)) e

  pub all-on : p (get_or l i d) ≡ true → all p (slice i n l) ≡ all p (slice (i + 1) n l)
  unfolding all
  all-on e = ap (all p) (slice-step l i n d h m) ∙ ap (λ (b : Bool). b && all p (slice (i + 1) n l)) e

module _ {A : Type 0} (p : A → Bool) (l : List A) (i n : ℕ) (h : n ≤ i) where
  pub all_none : all p (slice i n l) ≡ true
  unfolding all
  all_none = ap (all p) (slice-none l i n h)

-- ---- by the number before

module _ {A : Type 0} (number : A → ℕ) (l : List A) (i n : ℕ) (d : A) (h : i < n) (m : n ≤ length l) (last : ℕ) where
  pub rises-on : last < number (get_or l i d) → rising number last (slice i n l) ≡ rising number (number (get_or l i d)) (slice (i + 1) n l)
  unfolding rising
  rises-on e =
      ap (rising number last) (slice-step l i n d h m)
      ∙ ap (λ (b : Bool). b && rising number (number (get_or l i d)) (slice (i + 1) n l)) (lt-ltb last (number (get_or l i d)) e)

  pub rises_not : number (get_or l i d) ≤ last → rising number last (slice i n l) ≡ false
  unfolding rising
  rises_not e =
      ap (rising number last) (slice-step l i n d h m)
      ∙ ap (λ (b : Bool). b && rising number (number (get_or l i d)) (slice (i + 1) n l)) (le-ltb last (number (get_or l i d)) e)

pub rises-none : {A : Type 0} (number : A → ℕ) (l : List A) (i n last : ℕ) → n ≤ i → rising number last (slice i n l) ≡ true
unfolding rising
rises-none number l i n last h = ap (rising number last) (slice-none l i n h)

-- ---- by the number before and the sum so far

module _ {A : Type 0} (number size : A → ℕ) (admits : ℕ → ℕ → A → Bool) (l : List A) (i n : ℕ) where
  module _ (d : A) (h : i < n) (m : n ≤ length l) (last sum : ℕ) where
    pub admitted-on : admits last sum (get_or l i d) ≡ true
        → admitted number size admits last sum (slice i n l) ≡ admitted number size admits (number (get_or l i d)) (sum + size (get_or l i d)) (slice (i + 1) n l)
    unfolding admitted
    admitted-on e =
        ap (admitted number size admits last sum) (slice-step l i n d h m)
        ∙ ap (λ (b : Bool). b && admitted number size admits (number (get_or l i d)) (sum + size (get_or l i d)) (slice (i + 1) n l)) e

    pub admitted_not : admits last sum (get_or l i d) ≡ false → admitted number size admits last sum (slice i n l) ≡ false
    unfolding admitted
    admitted_not e =
        ap (admitted number size admits last sum) (slice-step l i n d h m)
        ∙ ap (λ (b : Bool). b && admitted number size admits (number (get_or l i d)) (sum + size (get_or l i d)) (slice (i + 1) n l)) e

  pub admitted-none : (last sum : ℕ) → n ≤ i → admitted number size admits last sum (slice i n l) ≡ true
  unfolding admitted
  admitted-none last sum h = ap (admitted number size admits last sum) (slice-none l i n h)
