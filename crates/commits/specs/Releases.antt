-- The contracts of a commit's steps, each against the rule book's own. Assumes nothing.
use Rattle.std.specs.Prelude.{ℕ, ◌≤◌, ◌≡◌, Bool, true, false, List, [], ◌∷◌, length, leb, if◌then◌else◌}
use Rattle.rules.specs.declared.Clock.{Clock}
use Rattle.rules.specs.declared.PreparedCommit.{PreparedCommit}
use Rattle.rules.specs.Lists.{Bytes}
use Rattle.rules.specs.State as R
use Rattle.rules.specs.State.{clock_is}
use Rattle.rules.specs.Events.{Event, committed}
use Rattle.rules.specs.Progress.{goes}
use Rattle.rules.specs.Commits.{persist_by, release_by, released_frames}
use Rattle.events.specs.Written.{ListedIn}
use Rattle.outbox.specs.Sound.{sound_outbox_of}
use Rattle.outbox.specs.View.{unacked_of}
use Rattle.peer_session.specs.declared.SessionState.{SessionState}
use Rattle.peer_session.specs.View.{state_of, Exact}
use Rattle.commits.specs.declared.ReleasedFrames.{ReleasedFrames}

-- the clock of a session that is persisted, whatever the rest of it is
abbrev pub Persists : Bool → PreparedCommit → Clock → Clock → Type 0
Persists persisted c before after = (t : R.State) → t.clock ≡ before → clock_is after t ≡ persist_by persisted c t

-- what a release asks: of the parts that it reads, and of the length of the list
pub record MayRelease (s : SessionState) (size : ℕ) : Type 0 where
  pub sound : sound_outbox_of s.outbox ≡ true
  pub messages : s.outbox.count ≤ 256
  pub acks : s.waiting.count ≤ 512
  pub room : 4096 ≤ size

-- the frames that the rule book releases: none for a generation not above the released one
abbrev pub frames : PreparedCommit → R.State → List Event
frames c t = if leb c.generation t.clock.released then [] else released_frames c t

pub record ReleasesBy (c : PreparedCommit) (s : SessionState) (l : List ℕ) (r : ReleasedFrames) (l' : List ℕ) : Type 0 where
  pub few : r.events ≤ 768
  pub exact : (o q : Bytes) → Exact s (length o) (length q) → Exact r.session (length o) (length q)
  pub does : (o q : Bytes) → Exact s (length o) (length q) → release_by c (state_of s o q) ≡ goes (state_of r.session o q) (frames c (state_of s o q))
  pub listed : (o q : Bytes) → Exact s (length o) (length q) → ListedIn (unacked_of r.session.outbox o) (frames c (state_of s o q)) l 0 l' r.events

-- what is listed of a commit that is persisted
abbrev pub notices : Bool → List Event
notices true = committed ∷ []
notices false = []
