-- A few numbers written one after the other, and a run of bytes. Assumes nothing.
use Prim.Native.Nat.{ℕ, zero, suc, ◌+◌, ◌≤◌, ◌<◌}
use mathlib.Core.Path.{◌≡◌, refl, sym, ap, ◌∙◌}
use mathlib.Core.List.{List, [], ◌∷◌}
use native.Mathlib.Omega.{arith}
use lib.ListN.{length, set, length-set}
use lib.Seq.{get_or-set_same, get_or-set_other, get_or-take, get_or-drop}
use Rattle.stores.specs.Placed.{placed}
use Rattle.stores.proofs.Laws.{take_placed_le, drop_placed_ge}
use Rattle.parts.specs.Parts.{at}
use Rattle.link_starts.specs.Filled.{Filled}

unfoldable pub puts : ℕ → List ℕ → List ℕ → List ℕ
puts from [] l = l
puts from (x ∷ xs) l = puts (suc from) xs (set l from x)

puts_none : (from : ℕ) (l : List ℕ) → Filled from 0 (at []) l l
puts_none from l = record { size = refl; filled = λ i h. absurd (omega arith); below = λ i h. refl; above = λ i h. refl }

puts_cons : (from x : ℕ) (xs l l' : List ℕ) → from < length l → Filled (suc from) (length xs) (at xs) (set l from x) l' → Filled from (suc (length xs)) (at (x ∷ xs)) l l'
puts_cons from x xs l l' h s =
    record {
      size = s.size ∙ length-set l from x;
      filled = λ i k. at_each i k;
      below = λ i k. s.below i (omega arith) ∙ get_or-set_other l from i x 0 (λ same. omega (arith, same));
      above = λ i k. s.above i (omega arith) ∙ get_or-set_other l from i x 0 (λ same. omega (arith, same));
    }
  where
    at_each : (i : ℕ) → i < suc (length xs) → at l' (from + i) ≡ at (x ∷ xs) i
    at_each zero k =
        let e : from + zero ≡ from = omega arith in
        ap (at l') e ∙ s.below from (omega arith) ∙ get_or-set_same l from x 0 h
    at_each (suc i) k =
        let e : from + suc i ≡ suc from + i = omega arith in
        ap (at l') e ∙ s.filled i (omega arith)

pub puts_filled : (from : ℕ) (xs l : List ℕ) → from + length xs ≤ length l → Filled from (length xs) (at xs) l (puts from xs l)
unfolding puts
puts_filled from [] l h = puts_none from l
puts_filled from (x ∷ xs) l h =
    puts_cons from x xs l (puts (suc from) xs (set l from x)) (omega arith) (puts_filled (suc from) xs (set l from x) (omega (arith, length-set l from x)))

-- ---- a run of bytes written

module _ (b : List ℕ) (from : ℕ) (v : List ℕ) (room : from + length v ≤ length b) where
  pub placed_below : (i : ℕ) → i < from → at (placed b from v) i ≡ at b i
  placed_below i k = sym (get_or-take from (placed b from v) i 0 k) ∙ ap (λ (l : List ℕ). at l i) (take_placed_le b from v room from (omega arith)) ∙ get_or-take from b i 0 k

  pub placed-above : (i : ℕ) → from + length v ≤ i → at (placed b from v) i ≡ at b i
  placed-above i k =
      let z : i + 0 ≡ i = omega arith in
      ap (at (placed b from v)) (sym z) ∙ sym (get_or-drop i (placed b from v) 0 0) ∙ ap (λ (l : List ℕ). at l 0) (drop_placed_ge b from v room i k) ∙ get_or-drop i b 0 0 ∙ ap (at b) z
