-- A list by what stands at each index. Assumes nothing.
use Rattle.std.specs.Prelude.{ℕ, zero, suc, List, [], ◌∷◌}

module _ {A : Type 0} where
  -- f 0, f 1, up to f (n - 1)
  unfoldable pub seats : ℕ → (ℕ → A) → List A
  seats zero f = []
  seats (suc n) f = f zero ∷ seats n (λ i. f (suc i))
