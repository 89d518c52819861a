-- A new session. Assumes nothing.
use Rattle.std.specs.Prelude.{ℕ, ◌≡◌, false, [], length, pos}
use Rattle.std.proofs.Math.Option.{none}
use Rattle.std.specs.Float.{fin}
use Rattle.rules.specs.declared.Policy.{Policy}
use Rattle.rules.specs.declared.Setup.TheVariants.{None}
use Rattle.rules.specs.declared.ReceiveMode.TheVariants.{Raw}
use Rattle.numbers.specs.Seats.{ExactNumbers}
use Rattle.outbox.specs.declared.Outbox.{Outbox}
use Rattle.queue.specs.declared.Queue.{Queue}
use Rattle.peer_session.specs.declared.TerminalHandoff.{TerminalHandoff}
use Rattle.peer_session.specs.declared.RejectBody.{RejectBody}
use Rattle.peer_session.specs.declared.SessionState.{SessionState}
use Rattle.peer_session.specs.View.{Held}

pub record NoMessages (next : ℕ) (r : Outbox) : Type 0 where
  pub next_is : r.next ≡ next
  pub none : r.count ≡ 0
  pub full : length r.records ≡ 256

pub record NoFrames (r : Queue) : Type 0 where
  pub none : r.count ≡ 0
  pub full : length r.records ≡ 256

pub record NoHandoff (r : TerminalHandoff) : Type 0 where
  pub absent : r.present ≡ false
  pub full : length r.body ≡ 4096

-- everything under way is empty, and the rest as given
pub record New (x : Outbox) (remote disposition : ℕ) (policy : Policy) (reject : RejectBody) (r : SessionState) : Type 0 where
  pub outbox : r.outbox ≡ x
  pub number : r.remote ≡ remote
  pub released : r.released ≡ remote
  pub queue : NoFrames r.queue
  pub waiting : r.waiting.count ≡ 0
  pub retry : r.retry.count ≡ 0
  pub acks : ExactNumbers r.waiting
  pub retries : ExactNumbers r.retry
  pub clock : r.clock ≡ record { last_replay_at = fin false 0 (pos 0); generation = 0; released = 0; persisted = 0 }
  pub stage : r.stage ≡ record { disposition = disposition; setup = None; mode = Raw; failed = false }
  pub handoff : NoHandoff r.handoff
  pub policy_is : r.policy ≡ policy
  pub reject_is : r.reject ≡ reject

-- the session of a refused start
abbrev pub nothing : Held
nothing =
    record {
      next = 0;
      unackeds = 0;
      unacked = [];
      remote = 0;
      released = 0;
      queues = 0;
      queue = [];
      waits = 0;
      waiting = [];
      retries = 0;
      retry = [];
      clock = record { last_replay_at = fin false 0 (pos 0); generation = 0; released = 0; persisted = 0 };
      stage = record { disposition = 0; setup = None; mode = Raw; handoff = none; failed = false };
      handoff_size = 0;
      policy = record { gap = 0; messages = 0; bytes = 0; body = 0 };
      reject_size = 0;
      reject = [];
    }
