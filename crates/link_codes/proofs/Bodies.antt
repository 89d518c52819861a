-- Runs of bytes of a part. Assumes nothing.
use Prim.Native.Nat.{ℕ, ◌+◌, ◌≤◌}
use mathlib.Core.Path.{◌≡◌, ap, ◌∙◌}
use mathlib.Core.List.{List, [], ◌++◌, append-nil}
use native.Mathlib.Omega.{arith}
use lib.ListN.{length, replicate, length-replicate, take, drop, drop_of_length-le}
use lib.Seq.{take-take}
use Rattle.stores.specs.Placed.{placed}
use Rattle.stores.proofs.Laws.{drop-placed}
use Rattle.parts.specs.Parts.{section}
use Rattle.parts.proofs.Fields.{length-section}

module _ (from n : ℕ) (l : List ℕ) (h : from + n ≤ length l) {y : List ℕ} (is : y ≡ section from n l) where
  size : length y ≡ n
  size = ap length is ∙ length-section from n l h

  pub fits : 0 + length y ≤ n
  fits = omega (arith, size)

  -- it fills the array
  pub copied : (x : List ℕ) → x ≡ placed (replicate n 0) 0 y → x ≡ section from n l
  copied x e =
      let z : List ℕ = replicate n 0 in
      let long : length z ≡ n = length-replicate n 0 in
      let none : drop (0 + length y) z ≡ [] = drop_of_length-le z {i = 0 + length y} (omega (arith, size, long)) in
      e ∙ drop-placed z 0 y (omega (arith, size, long)) ∙ ap (λ (r : List ℕ). y ++ r) none ∙ append-nil y ∙ is

-- the handoff's body, by its length
pub held-body : (n : ℕ) (b : List ℕ) → n ≤ 4096 → take n (section 776 4096 b) ≡ take n (drop 776 b)
held-body n b h = take-take n 4096 (drop 776 b) h
