-- A session with another clock. Assumes nothing.
use Prim.Native.Nat.{ℕ}
use Rattle.rules.specs.declared.Clock.{Clock}
use Rattle.peer_session.specs.declared.SessionState.{SessionState}
use Rattle.peer_session.specs.View.{Exact}

abbrev pub clocked : Clock → SessionState → SessionState
clocked k s =
    record {
      outbox = s.outbox;
      remote = s.remote;
      released = s.released;
      queue = s.queue;
      waiting = s.waiting;
      retry = s.retry;
      clock = k;
      stage = s.stage;
      handoff = s.handoff;
      policy = s.policy;
      reject = s.reject;
    }

-- what makes the view exact does not depend on it
pub exact_clocked : (k : Clock) (s : SessionState) {outbound queue : ℕ} → Exact s outbound queue → Exact (clocked k s) outbound queue
exact_clocked k s e =
    let r = e.rest in
    record {
      outbox = e.outbox;
      queued = e.queued;
      rest = record { waiting = r.waiting; retry = r.retry; handoff = r.handoff; handed = r.handed; reject = r.reject; rejects = r.rejects };
    }
