-- Records that may follow one another. Assumes nothing.
use Rattle.std.specs.Prelude.{ℕ, ◌+◌, Bool, true, ◌&&◌, List, [], ◌∷◌}

-- each record is admitted after those before it: `last` is the number of the one before, `sum` the sum of the lengths so far
module _ {A : Type 0} (number size : A → ℕ) (admits : ℕ → ℕ → A → Bool) where
  unfoldable pub admitted : ℕ → ℕ → List A → Bool
  admitted last sum [] = true
  admitted last sum (u ∷ us) = let t = admitted (number u) (sum + size u) us in admits last sum u && t
