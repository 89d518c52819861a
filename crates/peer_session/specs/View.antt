-- A session with its two stores, as the rule book's state, and what of a session a state settles. Assumes nothing.
use Rattle.std.specs.Prelude.{ℕ, ◌≤◌, ◌≡◌, List, map, length, take, if◌then◌else◌}
use Rattle.std.proofs.Math.Option.{Option, none, some}
use Rattle.rules.specs.declared.Policy.{Policy}
use Rattle.rules.specs.declared.Clock.{Clock}
use Rattle.rules.specs.Lists.{Bytes}
use Rattle.rules.specs.State as R
use Rattle.rules.specs.Start.{handoff_size}
use Rattle.numbers.specs.Seats.{in_use, ExactNumbers}
use Rattle.outbox.specs.declared.Unacked.{Unacked}
use Rattle.outbox.specs.View.{record_u, used_u, outbox_of, ExactOutbox}
use Rattle.queue.specs.declared.Queued.{Queued}
use Rattle.queue.specs.View.{record_q, used_q, frames_of, ExactQueue}
use Rattle.peer_session.specs.declared.Stage.{Stage}
use Rattle.peer_session.specs.declared.TerminalHandoff.{TerminalHandoff}
use Rattle.peer_session.specs.declared.RejectBody.{RejectBody}
use Rattle.peer_session.specs.declared.SessionState.{SessionState}

-- ---- the view: bodies are cut from the stores, and entries of an array past its count are no part of the state

abbrev pub handoff_of : TerminalHandoff → Option R.Handoff
handoff_of h =
    if h.present
    then some (record { id = h.id; number = h.number; body = take h.len h.body; sent = h.sent; acknowledged = h.acknowledged })
    else none

abbrev pub inbox_of : List R.Frame → SessionState → R.Inbox
inbox_of fs s = record { remote = s.remote; released = s.released; queue = fs; waiting = in_use s.waiting; retry = in_use s.retry }

abbrev pub stage_of : Stage → TerminalHandoff → R.Stage
stage_of g h = record { disposition = g.disposition; setup = g.setup; mode = g.mode; handoff = handoff_of h; failed = g.failed }

abbrev pub reject_of : RejectBody → Bytes
reject_of j = take j.len j.bytes

abbrev pub fixed_of : SessionState → R.Fixed
fixed_of s = record { policy = s.policy; reject = reject_of s.reject }

-- with the queued frames given
abbrev pub view : List R.Frame → SessionState → Bytes → R.State
view fs s o =
    record { outbox = outbox_of s.outbox o; inbox = inbox_of fs s; clock = s.clock; stage = stage_of s.stage s.handoff; fixed = fixed_of s }

-- with those that the session itself queues
abbrev pub state_of : SessionState → Bytes → Bytes → R.State
state_of s o q = view (frames_of s.queue q) s o

-- ---- what of a session a state settles: every number, every count, and the records in use

pub record Held : Type 0 where
  pub next : ℕ
  pub unackeds : ℕ
  pub unacked : List Unacked
  pub remote : ℕ
  pub released : ℕ
  pub queues : ℕ
  pub queue : List Queued
  pub waits : ℕ
  pub waiting : List ℕ
  pub retries : ℕ
  pub retry : List ℕ
  pub clock : Clock
  pub stage : R.Stage
  pub handoff_size : ℕ
  pub policy : Policy
  pub reject_size : ℕ
  pub reject : Bytes

abbrev pub handoff_length : TerminalHandoff → ℕ
handoff_length h = if h.present then h.len else 0

abbrev pub held : SessionState → Held
held s =
    record {
      next = s.outbox.next;
      unackeds = s.outbox.count;
      unacked = used_u s.outbox;
      remote = s.remote;
      released = s.released;
      queues = s.queue.count;
      queue = used_q s.queue;
      waits = s.waiting.count;
      waiting = in_use s.waiting;
      retries = s.retry.count;
      retry = in_use s.retry;
      clock = s.clock;
      stage = stage_of s.stage s.handoff;
      handoff_size = handoff_length s.handoff;
      policy = s.policy;
      reject_size = s.reject.len;
      reject = reject_of s.reject;
    }

-- the session that a state asks for: a view of the result would say nothing of a count past its array
unfoldable pub encode : R.State → Held
encode t =
    record {
      next = t.outbox.next;
      unackeds = length t.outbox.unacked;
      unacked = map record_u t.outbox.unacked;
      remote = t.inbox.remote;
      released = t.inbox.released;
      queues = length t.inbox.queue;
      queue = map record_q t.inbox.queue;
      waits = length t.inbox.waiting;
      waiting = t.inbox.waiting;
      retries = length t.inbox.retry;
      retry = t.inbox.retry;
      clock = t.clock;
      stage = t.stage;
      handoff_size = handoff_size t.stage.handoff;
      policy = t.fixed.policy;
      reject_size = length t.fixed.reject;
      reject = t.fixed.reject;
    }

-- ---- what makes the view exact: counts within the arrays, bodies within the stores

pub record ExactRest (s : SessionState) : Type 0 where
  pub waiting : ExactNumbers s.waiting
  pub retry : ExactNumbers s.retry
  pub handoff : length s.handoff.body ≡ 4096
  pub handed : handoff_length s.handoff ≤ 4096
  pub reject : length s.reject.bytes ≡ 64
  pub rejects : s.reject.len ≤ 64

pub record Exact (s : SessionState) (outbound queue : ℕ) : Type 0 where
  pub outbox : ExactOutbox s.outbox outbound
  pub queued : ExactQueue s.queue queue
  pub rest : ExactRest s
