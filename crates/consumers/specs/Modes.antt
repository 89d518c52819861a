-- A session with another mode. Assumes nothing.
use Rattle.rules.specs.declared.ReceiveMode.{ReceiveMode}
use Rattle.peer_session.specs.declared.SessionState.{SessionState}

abbrev pub with_mode : ReceiveMode → SessionState → SessionState
with_mode m s =
    record {
      outbox = s.outbox;
      remote = s.remote;
      released = s.released;
      queue = s.queue;
      waiting = s.waiting;
      retry = s.retry;
      clock = s.clock;
      stage = record { disposition = s.stage.disposition; setup = s.stage.setup; mode = m; failed = s.stage.failed };
      handoff = s.handoff;
      policy = s.policy;
      reject = s.reject;
    }
