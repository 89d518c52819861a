-- A run of numbers written into a part. Assumes nothing.
use Rattle.std.specs.Prelude.{ℕ, ◌+◌, ◌≤◌, ◌<◌, ◌≡◌, List, length}
use Rattle.parts.specs.Parts.{at}

-- n numbers from an index on are written, f 0, f 1, .., and no others
pub record Filled (from n : ℕ) (f : ℕ → ℕ) (l l' : List ℕ) : Type 0 where
  pub size : length l' ≡ length l
  pub filled : (i : ℕ) → i < n → at l' (from + i) ≡ f i
  pub below : (i : ℕ) → i < from → at l' i ≡ at l i
  pub above : (i : ℕ) → from + n ≤ i → at l' i ≡ at l i
