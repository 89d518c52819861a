-- What a function on the parts leaves alone. Assumes nothing.
use Rattle.std.specs.Prelude.{ℕ, ◌+◌, ◌≤◌, ◌<◌, ◌≡◌, List, length}
use Rattle.parts.specs.Parts.{at}

-- only the first n elements change
pub record Past (n : ℕ) (l l' : List ℕ) : Type 0 where
  pub size : length l' ≡ length l
  pub same : (i : ℕ) → n ≤ i → at l' i ≡ at l i

-- only a set of numbers changes: the 512 words from an index on, and its count
pub record Only (from count : ℕ) (w w' : List ℕ) : Type 0 where
  pub size : length w' ≡ length w
  pub below : (i : ℕ) → i < from → (i ≡ count → ⊥) → at w' i ≡ at w i
  pub above : (i : ℕ) → from + 512 ≤ i → at w' i ≡ at w i
