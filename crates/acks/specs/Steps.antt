-- The contracts of the steps of an ack. Assumes nothing.
use Rattle.std.specs.Prelude.{ℕ, ◌+◌, ◌<◌, ◌≡◌, Bool, true, false, List, [], ◌∷◌, ◌++◌, length, if◌then◌else◌}
use Rattle.rules.specs.declared.Clock.{Clock}
use Rattle.rules.specs.declared.Answer.TheVariants.{Flag, Refused}
use Rattle.rules.specs.declared.Refusal.TheVariants.{AckOutOfRange}
use Rattle.rules.specs.Lists.{Bytes, packed}
use Rattle.rules.specs.State.{State, body_of, handoff_is, is_raw}
use Rattle.rules.specs.Events.{Event, acknowledged, rejection_acknowledged, failure}
use Rattle.rules.specs.Setup.{rejection_complete}
use Rattle.rules.specs.Acks.{acknowledge, acknowledged_by}
use Rattle.rules.specs.Buffers.{repacked}
use Rattle.events.specs.Written.{Listed, asked}
use Rattle.outbox.specs.View.{end_u, unacked_of, ExactOutbox}
use Rattle.peer_session.specs.declared.SessionState.{SessionState}
use Rattle.peer_session.specs.View.{state_of, Exact}
use Rattle.peer_session.specs.Breaks.{Broken}
use Rattle.session.specs.declared.Returned.{Returned}

-- ---- an ack in range

-- the clock, by whether as many messages are left as there were
abbrev pub clock_after : Bool → Clock → Clock
clock_after true c = c
clock_after false c =
    record { last_replay_at = c.last_replay_at; generation = c.generation + 1; released = c.released; persisted = c.persisted }

-- what an ack asks of a session
pub record Ready (s : SessionState) (size : ℕ) : Type 0 where
  pub exact : ExactOutbox s.outbox size
  pub low : s.clock.generation < 4294966000

-- the rule book's state after an ack of n, the handoff's part with it
abbrev pub acked : ℕ → State → State
acked n t = handoff_is (acknowledged_by n (acknowledge n t).stage.handoff) (acknowledge n t)

-- what an ack of n leaves, whatever the queue store holds
pub record Acknowledges (n : ℕ) (s : SessionState) (o : Bytes) (r : SessionState) (o' : Bytes) : Type 0 where
  pub does : (q : Bytes) → acked n (state_of s o q) ≡ state_of r o' q
  pub exact : (size : ℕ) → Exact s (length o) size → Exact r (length o') size
  pub bytes : o' ≡ repacked (end_u s.outbox) (packed body_of (unacked_of r.outbox o')) o
  pub next : r.outbox.next ≡ s.outbox.next
  pub queue : r.queue ≡ s.queue

-- codes 4 and 3
abbrev pub notices : ℕ → Bool → Bool → List Event
notices n complete raw = (if complete then (rejection_acknowledged ∷ []) else []) ++ (if raw then (acknowledged n ∷ []) else [])

-- all that an ack of n lists, by the state that it leaves
abbrev pub shown : ℕ → State → List Event
shown n t = asked t.clock ++ notices n (rejection_complete t) (is_raw t.stage.mode)

pub record Acked (n : ℕ) (s : SessionState) (l : List ℕ) (o : Bytes) (r : Returned) (l' : List ℕ) (o' : Bytes) : Type 0 where
  pub leaves : Acknowledges n s o r.session o'
  pub answer : r.answer ≡ Flag true
  pub listed : (q : Bytes) → Listed (shown n (state_of r.session o' q)) l 0 l' r.events

-- ---- an ack out of range

pub record OutOfRange (s : SessionState) (l : List ℕ) (q : Bytes) (r : Returned) (l' : List ℕ) (q' : Bytes) : Type 0 where
  pub leaves : Broken s q r.session q'
  pub answer : r.answer ≡ Refused AckOutOfRange
  pub listed : Listed (failure AckOutOfRange ∷ []) l 0 l' r.events
