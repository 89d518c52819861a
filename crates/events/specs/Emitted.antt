-- What `emit_if` writes. Assumes nothing.
use Rattle.std.specs.Prelude.{ℕ, ◌+◌, ◌*◌, ◌≡◌, Bool, List, [], ◌∷◌, if◌then◌else◌}
use Rattle.stores.specs.Placed.{placed}

-- the four words of event n are written where it is to go, and then n' is the next event's number
pub record EmittedIf (goes : Bool) (code number start len : ℕ) (l : List ℕ) (n : ℕ) (l' : List ℕ) (n' : ℕ) : Type 0 where
  pub count : n' ≡ n + (if goes then 1 else 0)
  pub words : l' ≡ placed l (4 * n) (if goes then (code ∷ number ∷ start ∷ len ∷ []) else [])
