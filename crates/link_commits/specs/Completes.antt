-- The steps of a completed commit on the parts of a session. Assumes nothing.
use Rattle.std.specs.Prelude.{ℕ, ◌≤◌, ◌≡◌, true, List, Float, length}
use Rattle.rules.specs.declared.PreparedCommit.{PreparedCommit}
use Rattle.outbox.specs.Sound.{sound_outbox_of}
use Rattle.peer_session.specs.Sound.{sound_of, Full}
use Rattle.commits.specs.Releases.{ReleasesBy}
use Rattle.numbers.specs.Seats.{ExactNumbers}
use Rattle.parts.specs.Parts.{Parts, parts, at, outbox_in, waiting_in, opened_of}

-- ---- past the tests: the list's length, the session, the record's numbers

pub record Ready (p : Parts) (n : ℕ) (c : PreparedCommit) : Type 0 where
  pub sound : sound_of (opened_of p) ≡ true
  pub full : Full (opened_of p)
  pub halves : 772 ≤ length p.halves
  pub list : 4096 ≤ n
  pub outbound : c.outbound ≤ 18446744073709551614
  pub remote : c.remote ≤ 18446744073709551614

-- ---- messages and acks go out

-- what a release asks: of messages and acks, and of the length of the list
pub record MayReleaseIn (w h b : List ℕ) (n : ℕ) : Type 0 where
  pub sound : sound_outbox_of (outbox_in w h b) ≡ true
  pub messages : at w 1 ≤ 256
  pub acks : ExactNumbers (waiting_in w)
  pub words : 1296 ≤ length w
  pub halves : 772 ≤ length h
  pub bytes : 4936 ≤ length b
  pub room : 4096 ≤ n

-- n events are listed
abbrev pub ReleasesIn : PreparedCommit → List ℕ → List ℕ → List ℕ → List ℕ → List ℕ → List ℕ → List ℕ → List ℕ → ℕ → Type 0
ReleasesIn c w h b l w' h' b' l' n =
    (t : Float) → ReleasesBy c (opened_of (parts w h b t)) l (record { session = opened_of (parts w' h' b' t); events = n }) l'
