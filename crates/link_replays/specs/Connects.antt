-- A connectivity event on the parts of a session, past its tests: the list's length, the session. Assumes nothing.
use Rattle.std.specs.Prelude.{ℕ, ◌≤◌, ◌≡◌, true}
use Rattle.peer_session.specs.Sound.{sound_of, Full}
use Rattle.parts.specs.Parts.{Parts, opened_of}

-- with a list of n words
pub record Ready (p : Parts) (n : ℕ) : Type 0 where
  pub sound : sound_of (opened_of p) ≡ true
  pub full : Full (opened_of p)
  pub list : 4096 ≤ n
