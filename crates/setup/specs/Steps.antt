-- The contracts of the steps of a setup. Assumes nothing.
use Rattle.std.specs.Prelude.{ℕ, ◌<◌, ◌≡◌, List, [], length, Result, Err}
use Rattle.rules.specs.declared.Refusal.{Refusal}
use Rattle.rules.specs.declared.Terms.{Terms}
use Rattle.rules.specs.declared.Setup.{Setup}
use Rattle.rules.specs.declared.Setup.TheVariants.{Waiting}
use Rattle.rules.specs.declared.Answer.TheVariants.{Done}
use Rattle.rules.specs.Lists.{Bytes, packed}
use Rattle.rules.specs.Limits.{active}
use Rattle.rules.specs.State as R
use Rattle.rules.specs.State.{body_of}
use Rattle.rules.specs.Events.{Event}
use Rattle.rules.specs.Progress.{◌then◌, request, Outcome, outcome, answers}
use Rattle.rules.specs.Sending.{allocate}
use Rattle.rules.specs.Setup.{waiting_with, reject_session, retired, clear_runtime}
use Rattle.rules.specs.Buffers.{repacked}
use Rattle.events.specs.Written.{Listed, asked, ended, stopped_by, reached}
use Rattle.outbox.specs.View.{end_u, unacked_of, ExactOutbox}
use Rattle.queue.specs.View.{Repacked}
use Rattle.peer_session.specs.declared.SessionState.{SessionState}
use Rattle.peer_session.specs.View.{state_of, Exact}
use Rattle.session.specs.declared.Returned.{Returned}

-- what a message that joins asks of a session
pub record Ready (s : SessionState) (size : ℕ) : Type 0 where
  pub exact : ExactOutbox s.outbox size
  pub low : s.clock.generation < 4294966000

-- a message with body b joins, under disposition d, whatever the queue store holds; a refusal leaves session and store
pub record Joins (b : Bytes) (d : ℕ) (s : SessionState) (o : Bytes) (r : Result SessionState Refusal) (o' : Bytes) : Type 0 where
  pub does : (q : Bytes) → allocate b d (state_of s o q) ≡ ended (stopped_by r) (state_of (reached s r) o' q)
  pub exact : (size : ℕ) → Exact s (length o) size → Exact (reached s r) (length o') size
  pub bytes : o' ≡ repacked (end_u s.outbox) (packed body_of (unacked_of (reached s r).outbox o')) o
  pub queue : (reached s r).queue ≡ s.queue
  pub kept : (x : Refusal) → r ≡ Err x → o' ≡ o

-- a session that is done, and what is requested for it
pub record Asks (s : SessionState) (l : List ℕ) (r : Returned) (l' : List ℕ) : Type 0 where
  pub is : r ≡ record { session = s; answer = Done; events = r.events }
  pub listed : Listed (asked s.clock) l 0 l' r.events

-- a session with another disposition and another setup
abbrev pub staged : ℕ → Setup → SessionState → SessionState
staged d setup s =
    record {
      outbox = s.outbox;
      remote = s.remote;
      released = s.released;
      queue = s.queue;
      waiting = s.waiting;
      retry = s.retry;
      clock = s.clock;
      stage = record { disposition = d; setup = setup; mode = s.stage.mode; failed = s.stage.failed };
      handoff = s.handoff;
      policy = s.policy;
      reject = s.reject;
    }

abbrev pub waiting_in : ℕ → Terms → SessionState → Returned
waiting_in d terms s = record { session = staged d (Waiting terms) s; answer = Done; events = 0 }

-- what a step of a call comes to, by the rule book's outcome, whatever the queue store holds, which it leaves
pub record Comes (rule : R.State → Outcome) (s : SessionState) (l : List ℕ) (o : Bytes) (r : Returned) (l' : List ℕ) (o' : Bytes) : Type 0 where
  pub shown : List Event
  pub does : (q : Bytes) → rule (state_of s o q) ≡ outcome (state_of r.session o' q) r.answer shown
  pub exact : (size : ℕ) → Exact s (length o) size → Exact r.session (length o') size
  pub bytes : o' ≡ repacked (end_u s.outbox) (packed body_of (unacked_of r.session.outbox o')) o
  pub queue : r.session.queue ≡ s.queue
  pub listed : Listed shown l 0 l' r.events

-- an initiator's accept, and a reject, once their tests are passed
abbrev pub proposing : Terms → Bytes → R.State → Outcome
proposing terms b t = answers Done (allocate b active t then waiting_with terms)

abbrev pub rejecting : R.State → Outcome
rejecting t = answers Done (reject_session t then request)

-- the rule book's `retired`, whatever the outbound store holds
pub record Retires (s : SessionState) (q : Bytes) (r : SessionState) (q' : Bytes) : Type 0 where
  pub does : (o : Bytes) → retired (state_of s o q) ≡ state_of r o q'
  pub exact : (size : ℕ) → Exact s size (length q) → Exact r size (length q')
  pub cleared : Repacked s.queue q [] r.queue q'
  pub outbox : r.outbox ≡ s.outbox

-- the rule book's `clear_runtime`, whatever the queue store holds
pub record Forgets (s : SessionState) (o : Bytes) (r : SessionState) (o' : Bytes) : Type 0 where
  pub does : (q : Bytes) → clear_runtime (state_of s o q) ≡ state_of r o' q
  pub exact : (size : ℕ) → Exact s (length o) size → Exact r (length o') size
  pub bytes : o' ≡ repacked (end_u s.outbox) (packed body_of (unacked_of r.outbox o')) o
  pub queue : r.queue ≡ s.queue
