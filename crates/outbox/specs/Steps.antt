-- The contracts of `outbox`. Assumes nothing.
use Rattle.std.specs.Prelude.{ℕ, ◌+◌, ◌≤◌, ◌<◌, ◌≡◌, List, [], ◌∷◌, ◌++◌, map, length}
use Rattle.rules.specs.Buffers.{repacked}
use Rattle.rules.specs.Lists.{Bytes, kept, packed}
use Rattle.rules.specs.State as R
use Rattle.rules.specs.State.{body_of}
use Rattle.rules.specs.Sending.{fresh}
use Rattle.rules.specs.Commits.{releases, release, data_frame}
use Rattle.rules.specs.Replay.{not_pending}
use Rattle.events.specs.Written.{ListedIn}
use Rattle.outbox.specs.declared.Outbox.{Outbox}
use Rattle.outbox.specs.declared.Released.{Released}
use Rattle.outbox.specs.View.{end_u, unacked_of, ExactOutbox}

-- Messages ms are left of outbox x and store o: in the array, and every byte of the store, bodies from 0, then 0 up to where bodies ended before,
-- then the bytes as they were.
pub record Repacked (x : Outbox) (o : Bytes) (ms : List R.Unacked) (r : Outbox) (o' : Bytes) : Type 0 where
  pub unacked : unacked_of r o' ≡ ms
  pub exact : ExactOutbox r (length o')
  pub bytes : o' ≡ repacked (end_u x) (packed body_of ms) o
  pub size : length o' ≡ length o

-- the same with the next message's number: as it was, and one more where a message joined
pub record Left (x : Outbox) (o : Bytes) (ms : List R.Unacked) (r : Outbox) (o' : Bytes) : Type 0 where
  pub repacked : Repacked x o ms r o'
  pub next : r.next ≡ x.next

pub record Appended (x : Outbox) (o b : Bytes) (r : Outbox) (o' : Bytes) : Type 0 where
  pub repacked : Repacked x o (unacked_of x o ++ (fresh x.next b ∷ [])) r o'
  pub next : r.next ≡ x.next + 1

-- room for a body of n bytes after those that end at index at
pub record Room (x : Outbox) (size at n : ℕ) : Type 0 where
  pub exact : ExactOutbox x size
  pub next : x.next ≤ 4294967295
  pub few : x.count < 256
  pub used : at ≡ end_u x
  pub short : at + n ≤ 65536

-- Flags of records are changed and nothing else, whatever the bodies are: f says what becomes of a message.
pub record Flagged (f : R.Unacked → R.Unacked) (x : Outbox) (r : Outbox) : Type 0 where
  pub next : r.next ≡ x.next
  pub ends : end_u r ≡ end_u x
  pub exact : (size : ℕ) → ExactOutbox x size → ExactOutbox r size
  pub unacked : (o : Bytes) → end_u x ≤ length o → unacked_of r o ≡ map f (unacked_of x o)

-- what a commit releases: sends are listed, by rising number
pub record Releases (upto : ℕ) (x : Outbox) (l : List ℕ) (n : ℕ) (r : Released) (l' : List ℕ) : Type 0 where
  pub flagged : Flagged (release upto) x r.outbox
  pub few : r.events ≤ n + x.count
  pub listed : (o : Bytes) → end_u x ≤ length o
      → ListedIn (map (release upto) (unacked_of x o)) (map data_frame (kept (releases upto) (unacked_of x o))) l n l' r.events

-- what a replay lists: every message that is not pending, by rising number
pub record Replays (x : Outbox) (l : List ℕ) (n : ℕ) (l' : List ℕ) (n' : ℕ) : Type 0 where
  pub few : n' ≤ n + x.count
  pub listed : (o : Bytes) → end_u x ≤ length o
      → ListedIn (unacked_of x o) (map data_frame (kept not_pending (unacked_of x o))) l n l' n'
