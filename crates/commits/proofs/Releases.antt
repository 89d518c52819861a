-- The steps of a commit, by their tests. Assumes nothing.
use mathlib.Core.Path.{refl, sym, ap}
use mathlib.Core.Bool.{Bool, true, false}
use mathlib.Core.List.{List, map}
use Prim.Native.Nat.{ℕ, ◌≤◌, ◌<◌}
use native.Mathlib.Omega.{arith}
use lib.ListN.{length}
use borrow.Author.Tests.{le-leb, lt-leb}
use Rattle.rules.specs.declared.PreparedCommit.{PreparedCommit}
use Rattle.rules.specs.State as R
use Rattle.rules.specs.State.{clock_is}
use Rattle.rules.specs.Events.{committed, listed}
use Rattle.rules.specs.Progress.{goes}
use Rattle.rules.specs.Commits.{release, after_release, released_frames, release_by}
use Rattle.rules.specs.Buffers.{flat}
use Rattle.events.specs.Emitted.{EmittedIf}
use Rattle.events.specs.Written.{Listed}
use Rattle.events.proofs.Emitted.{emitted_listed}
use Rattle.events.proofs.Laws.{listed-none, listed_then}
use Rattle.numbers.specs.declared.Released as N
use Rattle.numbers.specs.Seats.{ReleasesAcks}
use Rattle.outbox.specs.declared.Released as O
use Rattle.outbox.specs.View.{end_u, unacked_of}
use Rattle.outbox.specs.Steps.{Releases}
use Rattle.peer_session.specs.declared.SessionState.{SessionState}
use Rattle.peer_session.specs.View.{state_of}
use Rattle.peer_session.proofs.Held.{outbox_cong, inbox_cong, state_cong}
use Rattle.commits.specs.Releases.{MayRelease, ReleasesBy, notices}

-- ---- released

module _ (c : PreparedCommit) (s : SessionState) (l : List ℕ) where
  pub released-before : c.generation ≤ s.clock.released → ReleasesBy c s l (record { session = s; events = 0 }) l
  unfolding release_by
  released-before h =
      record {
        few = omega arith;
        exact = λ o q e. e;
        does = λ o q e. rw (le-leb c.generation s.clock.released h);
        listed = λ o q e. rw (le-leb c.generation s.clock.released h) (listed-none l 0);
      }

  -- what is left of messages and acks
  module _ (x : O.Released) (y : N.Released) (l₁ l₂ : List ℕ) where
    abbrev left : SessionState
    left =
        record {
          outbox = x.outbox;
          remote = s.remote;
          released = c.remote;
          queue = s.queue;
          waiting = y.numbers;
          retry = s.retry;
          clock =
              record {
                last_replay_at = s.clock.last_replay_at;
                generation = s.clock.generation;
                released = c.generation;
                persisted = s.clock.persisted;
              };
          stage = s.stage;
          handoff = s.handoff;
          policy = s.policy;
          reject = s.reject;
        }

    pub released_now : s.clock.released < c.generation → MayRelease s (length l) → Releases c.outbound s.outbox l 0 x l₁
        → ReleasesAcks c.remote s.waiting l₁ x.events y l₂ → ReleasesBy c s l (record { session = left; events = y.events }) l₂
    unfolding release_by after_release released_frames
    released_now h may m a =
        record {
          few = omega (arith, may, m.few, a.few);
          exact = λ o q e.
              record {
                outbox = m.flagged.exact (length o) e.outbox;
                queued = e.queued;
                rest =
                    record {
                      waiting = a.holds.exact;
                      retry = e.rest.retry;
                      handoff = e.rest.handoff;
                      handed = e.rest.handed;
                      reject = e.rest.reject;
                      rejects = e.rest.rejects;
                    };
              };
          does = λ o q e.
              rw (lt-leb c.generation s.clock.released h)
              (ap (λ (t : R.State). goes t (released_frames c (state_of s o q)))
              (state_cong (outbox_cong (sym m.flagged.next) (sym (m.flagged.unacked o (omega (arith, e.outbox)))))
              (inbox_cong refl refl refl (sym a.holds.held) refl) refl refl refl));
          listed = λ o q e.
              let w : end_u s.outbox ≤ length o = omega (arith, e.outbox) in
              rw (lt-leb c.generation s.clock.released h, m.flagged.unacked o w)
              (listed_then (omega arith) (m.listed o w) (a.listed (map (release c.outbound) (unacked_of s.outbox o))));
        }

-- ---- told

pub told : (b : Bool) {l l' : List ℕ} {n n' : ℕ} → EmittedIf b 6 0 0 0 l n l' n' → Listed (notices b) l n l' n'
unfolding flat listed
told true h us = emitted_listed us committed true h (λ at. refl)
told false h us = emitted_listed us committed false h (λ at. refl)
