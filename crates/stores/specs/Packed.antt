-- Bodies that lie packed from index 0 of a store, one for each record of a list, in its order. `size` says how many bytes a record's body has, and
-- `make` puts a record and its body together. Assumes nothing.
use Rattle.std.specs.Prelude.{ℕ, List, [], ◌∷◌, take, drop}

module _ {A M : Type 0} (size : A → ℕ) (make : A → List ℕ → M) where
  -- the records, each with its body, cut from the store
  unfoldable pub cut : List A → List ℕ → List M
  cut [] s = []
  cut (u ∷ us) s = make u (take (size u) s) ∷ cut us (drop (size u) s)
