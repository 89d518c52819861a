-- The handoff of a restore, on the parts of a session: w, b are the words and bytes before, and w', b' after. Assumes nothing.
use Rattle.std.specs.Prelude.{ℕ, List}
use Rattle.std.proofs.Math.Option.{Option}
use Rattle.rules.specs.State as R
use Rattle.restores.specs.Steps.{Handed}
use Rattle.parts.specs.Parts.{handoff_in}
use Rattle.link_starts.specs.Steps.{Between}

-- the handoff is the one given
pub record HandedIn (given : Option R.Handoff) (w b w' b' : List ℕ) : Type 0 where
  pub handed : Handed given (handoff_in w' b')
  pub words : Between 7 10 w w'
  pub bytes : Between 773 4872 b b'
