-- Elements of a list that are moved within it. Assumes nothing.
use Rattle.std.specs.Prelude.{ℕ, ◌+◌, ◌≤◌, ◌<◌, ◌≡◌, List, length, get_or}

-- n elements are moved down from one index to another
pub record Lowered {A : Type 0} (to from n : ℕ) (l l' : List A) : Type 0 where
  pub size : length l' ≡ length l
  pub moved : (i : ℕ) (d : A) → i < n → get_or l' (to + i) d ≡ get_or l (from + i) d
  pub below : (i : ℕ) (d : A) → i < to → get_or l' i d ≡ get_or l i d
  pub above : (i : ℕ) (d : A) → to + n ≤ i → get_or l' i d ≡ get_or l i d

-- the elements from one index up to another are moved up by one; what stands at the first stays
pub record Raised {A : Type 0} (from end : ℕ) (l l' : List A) : Type 0 where
  pub size : length l' ≡ length l
  pub moved : (i : ℕ) (d : A) → from ≤ i → i < end → get_or l' (i + 1) d ≡ get_or l i d
  pub below : (i : ℕ) (d : A) → i ≤ from → get_or l' i d ≡ get_or l i d
  pub above : (i : ℕ) (d : A) → end < i → get_or l' i d ≡ get_or l i d
