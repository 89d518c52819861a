-- Sets of numbers in the words of a session. Assumes nothing.
use Prim.Native.Nat.{ℕ, ◌+◌, ◌≤◌, ◌<◌}
use mathlib.Core.Path.{◌≡◌, refl, ap, ◌∙◌}
use mathlib.Core.List.{List}
use native.Mathlib.Omega.{arith}
use lib.ListN.{length, take, drop, set, length-take, length-drop, length-set}
use lib.Seq.{get_or-take, get_or-drop, drop-set-lt, drop-set-add, take-set-lt, get_or-set_other}
use Rattle.parts.specs.Parts.{at, section}
use Rattle.parts.specs.Frames.{Only}

-- ---- where a number lies

module _ (from : ℕ) (w : List ℕ) where
  pub section-length : from + 512 ≤ length w → length (section from 512 w) ≡ 512
  section-length h = simp (length-take, length-drop) (omega arith)

  pub section-room : length (section from 512 w) ≡ 512 → from + 512 ≤ length w
  section-room e = omega (arith, simp (length-take, length-drop) at e)

  pub section-at : (i : ℕ) → i < 512 → at (section from 512 w) i ≡ at w (from + i)
  section-at i h = get_or-take 512 (drop from w) i 0 h ∙ get_or-drop from w i 0

  -- a number stored in the section, or before it
  pub section-set : (i x : ℕ) → i < 512 → section from 512 (set w (from + i) x) ≡ set (section from 512 w) i x
  section-set i x h = ap (take 512) (drop-set-add from w i x) ∙ take-set-lt 512 (drop from w) i x h

  pub section-before : (j x : ℕ) → j < from → section from 512 (set w j x) ≡ section from 512 w
  section-before j x h = ap (take 512) (drop-set-lt from w j x h)

-- ---- what is left alone

pub only_none : (from count : ℕ) (w : List ℕ) → Only from count w w
only_none from count w = record { size = refl; below = λ i h n. refl; above = λ i h. refl }

module _ {from count : ℕ} {w w' : List ℕ} (o : Only from count w w') where
  pub only-number : (i x : ℕ) → i < 512 → Only from count w (set w' (from + i) x)
  only-number i x h =
      record {
        size = length-set w' (from + i) x ∙ o.size;
        below = λ j k n. get_or-set_other w' (from + i) j x 0 (λ e. omega arith) ∙ o.below j k n;
        above = λ j k. get_or-set_other w' (from + i) j x 0 (λ e. omega arith) ∙ o.above j k;
      }

  pub only-count : (x : ℕ) → count < from → Only from count w (set w' count x)
  only-count x h =
      record {
        size = length-set w' count x ∙ o.size;
        below = λ j k n. get_or-set_other w' count j x 0 n ∙ o.below j k n;
        above = λ j k. get_or-set_other w' count j x 0 (λ e. omega arith) ∙ o.above j k;
      }
