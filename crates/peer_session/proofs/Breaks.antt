-- A refusal that empties the queue. Assumes nothing.
use Rattle.std.specs.Prelude.{if◌then◌else◌}
use mathlib.Core.Path.{◌≡◌, refl, ap, ◌∙◌}
use mathlib.Core.Bool.{Bool, true, false}
use mathlib.Core.List.{List, []}
use Rattle.rules.specs.declared.ReceiveMode.{ReceiveMode}
use Rattle.rules.specs.declared.ReceiveMode.TheVariants.{Raw, Proposal, Channel, Rejection, Retiring}
use Rattle.rules.specs.Lists.{Bytes}
use Rattle.rules.specs.State as R
use Rattle.rules.specs.State.{is_channel, queue_is, failed_is}
use Rattle.rules.specs.Progress.{broken}
use Rattle.queue.specs.declared.Queue.{Queue}
use Rattle.queue.specs.View.{frames_of, Repacked}
use Rattle.peer_session.specs.declared.SessionState.{SessionState}
use Rattle.peer_session.specs.View.{state_of}
use Rattle.peer_session.specs.Breaks.{failed_in, Broken}

-- the rule, with the mode as a test
broken_if : (t : R.State) (b : Bool) (fs : List R.Frame) → fs ≡ []
    → queue_is fs (failed_is (if b then true else t.stage.failed) t) ≡ queue_is [] (if b then failed_is true t else t)
broken_if t true fs e = ap (λ (gs : List R.Frame). queue_is gs (failed_is true t)) e
broken_if t false fs e = ap (λ (gs : List R.Frame). queue_is gs t) e

-- failed after a refusal, by the test of the mode
pub fails_in : {m : ReceiveMode} (b : Bool) → m ≡ Channel → true ≡ failed_in m b
fails_in b e = rw e refl

pub fails-not : (m : ReceiveMode) (b : Bool) → (m ≡ Channel → ⊥) → b ≡ failed_in m b
fails-not Raw b n = refl
fails-not Proposal b n = refl
fails-not Channel b n = absurd (n refl)
fails-not Rejection b n = refl
fails-not Retiring b n = refl

module _ (s : SessionState) (q : Bytes) (x : Queue) (q' : Bytes) (failed : Bool) where
  abbrev next : SessionState
  next =
      record {
        outbox = s.outbox;
        remote = s.remote;
        released = s.released;
        queue = x;
        waiting = s.waiting;
        retry = s.retry;
        clock = s.clock;
        stage = record { disposition = s.stage.disposition; setup = s.stage.setup; mode = s.stage.mode; failed = failed };
        handoff = s.handoff;
        policy = s.policy;
        reject = s.reject;
      }

  pub breaks : Repacked s.queue q [] x q' → failed ≡ failed_in s.stage.mode s.stage.failed → Broken s q next q'
  unfolding broken
  breaks c f =
      record {
        does = λ o.
            ap (λ (b : Bool). queue_is (frames_of x q') (failed_is b (state_of s o q))) f
            ∙ broken_if (state_of s o q) (is_channel s.stage.mode) (frames_of x q') c.frames;
        exact = λ size e.
            record {
              outbox = e.outbox;
              queued = c.exact;
              rest = record { waiting = e.rest.waiting; retry = e.rest.retry; handoff = e.rest.handoff; handed = e.rest.handed; reject = e.rest.reject; rejects = e.rest.rejects };
            };
        cleared = c;
        outbox = refl;
      }
