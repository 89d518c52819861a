-- The contract of an event that sends anew: the promise itself, of each code. Assumes nothing.
use Rattle.std.specs.Prelude.{ℕ, ◌≤◌, Bool, List, Float}
use Rattle.rules.specs.Calls.{connects}
use Rattle.peer_session.specs.declared.SessionState.{SessionState}
use Rattle.session.specs.declared.Returned.{Returned}
use Rattle.session.specs.Promise.{CalledWithList}

abbrev pub Replayed : Float → Bool → SessionState → List ℕ → Returned → List ℕ → Type 0
Replayed time forced s l r l' = (event : ℕ) → 4 ≤ event → event ≤ 5 → CalledWithList (connects event time forced) s l r l'
