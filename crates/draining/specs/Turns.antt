-- A turn that begins at a session, and what a turn leaves of it: the outbox settled, and the rest stored back. Assumes nothing.
use Rattle.std.specs.Prelude.{ℕ, ◌≤◌, ◌≡◌, true, false, length, drop, ltb}
use Rattle.rules.specs.Lists.{Bytes}
use Rattle.outbox.specs.declared.Outbox.{Outbox}
use Rattle.outbox.specs.View.{unacked_of, ExactOutbox}
use Rattle.outbox.specs.Steps as Outboxes
use Rattle.queue.specs.View as Queues
use Rattle.queue.specs.View.{frames_of}
use Rattle.queue.specs.declared.Queue.{Queue}
use Rattle.numbers.specs.declared.Numbers.{Numbers}
use Rattle.peer_session.specs.declared.RejectBody.{RejectBody}
use Rattle.peer_session.specs.declared.SessionState.{SessionState}
use Rattle.peer_session.specs.View.{reject_of}
use Rattle.delivery.specs.declared.Turn.{Turn}
use Rattle.delivery.specs.Turns.{acted, after_sending}

-- ---- the turn that begins at a session

abbrev pub turn_of : SessionState → Turn
turn_of s =
    record {
      mode = s.stage.mode;
      failed = s.stage.failed;
      remote = s.remote;
      clock = s.clock;
      disposition = s.stage.disposition;
      next = s.outbox.next;
      unacked = ltb 0 s.outbox.count;
      sent = false;
      dropped = false;
    }

-- ---- the outbox after a turn

-- a rejection is sent only where nothing is unacked and a number is left
pub record Settling (t : Turn) (j : RejectBody) (x : Outbox) (size : ℕ) : Type 0 where
  pub exact : ExactOutbox x size
  pub alone : t.sent ≡ true → x.count ≡ 0
  pub next : t.sent ≡ true → x.next ≤ 4294967295
  pub short : j.len ≤ 64
  pub full : length j.bytes ≡ 64

pub record Settles (t : Turn) (reject : Bytes) (x : Outbox) (o : Bytes) (r : Outbox) (o' : Bytes) : Type 0 where
  pub repacked : Outboxes.Repacked x o (acted t.sent t.dropped x.next reject (unacked_of x o)) r o'
  pub next : r.next ≡ after_sending t.sent x.next

-- ---- the session after a turn

-- with everything but the queue
abbrev pub advanced : SessionState → Outbox → Numbers → Turn → SessionState
advanced s x w t =
    record {
      outbox = x;
      remote = t.remote;
      released = s.released;
      queue = s.queue;
      waiting = w;
      retry = s.retry;
      clock = t.clock;
      stage = record { disposition = t.disposition; setup = s.stage.setup; mode = s.stage.mode; failed = s.stage.failed };
      handoff = s.handoff;
      policy = s.policy;
      reject = s.reject;
    }

pub record Advances (t : Turn) (w : Numbers) (s : SessionState) (o : Bytes) (r : SessionState) (o' : Bytes) : Type 0 where
  pub is : r ≡ advanced s r.outbox w t
  pub settles : Settles t (reject_of s.reject) s.outbox o r.outbox o'

abbrev pub with_queue : Queue → SessionState → SessionState
with_queue x s =
    record {
      outbox = s.outbox;
      remote = s.remote;
      released = s.released;
      queue = x;
      waiting = s.waiting;
      retry = s.retry;
      clock = s.clock;
      stage = s.stage;
      handoff = s.handoff;
      policy = s.policy;
      reject = s.reject;
    }

-- with the frames taken from the front of the queue
pub record Finishing (t : Turn) (taken : ℕ) (s : SessionState) (outbound queue : ℕ) : Type 0 where
  pub settling : Settling t s.reject s.outbox outbound
  pub within : taken ≤ s.queue.count
  pub exact : Queues.ExactQueue s.queue queue

pub record Finishes (t : Turn) (w : Numbers) (taken : ℕ) (s : SessionState) (o q : Bytes) (r : SessionState) (o' q' : Bytes) : Type 0 where
  pub is : r ≡ with_queue r.queue (advanced s r.outbox w t)
  pub settles : Settles t (reject_of s.reject) s.outbox o r.outbox o'
  pub left : Queues.Repacked s.queue q (drop taken (frames_of s.queue q)) r.queue q'
