-- The driver's steps of a retire on the parts of a session, at any time of the last replay. Assumes nothing.
use Rattle.std.specs.Prelude.{ℕ, ◌≤◌, true, List, Float}
use Rattle.rules.specs.Lists.{Bytes}
use Rattle.peer_session.specs.Sound.{Checked}
use Rattle.setup.specs.Steps.{Retires, Forgets}
use Rattle.parts.specs.Parts.{parts, opened_of}

pub record Retiring (w h b : List ℕ) (n : ℕ) : Type 0 where
  pub checked : (t : Float) → Checked (opened_of (parts w h b t)) true
  pub room : 32768 ≤ n

pub record RetiresIn (w h b : List ℕ) (q : Bytes) (w' h' b' : List ℕ) (q' : Bytes) : Type 0 where
  pub retires : (t : Float) → Retires (opened_of (parts w h b t)) q (opened_of (parts w' h' b' t)) q'

pub record ForgetsIn (w h b : List ℕ) (o : Bytes) (w' h' : List ℕ) (o' : Bytes) : Type 0 where
  pub forgets : (t : Float) → Forgets (opened_of (parts w h b t)) o (opened_of (parts w' h' b t)) o'
