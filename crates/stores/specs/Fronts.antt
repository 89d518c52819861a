-- How far a test holds from the front of a list. Assumes nothing.
use Rattle.std.specs.Prelude.{ℕ, suc, Bool, List, [], ◌∷◌, if◌then◌else◌}

module _ {A : Type 0} where
  -- how many elements pass before the first that does not
  unfoldable pub front : (A → Bool) → List A → ℕ
  front p [] = 0
  front p (x ∷ xs) = let t = suc (front p xs) in if p x then t else 0
