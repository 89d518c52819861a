-- `retire`, test by test. Assumes nothing.
use mathlib.Core.Path.{◌≡◌, refl, sym, ap, ◌∙◌}
use mathlib.Core.Bool.{Bool, true, false, ◌&&◌}
use mathlib.Core.List.{List, []}
use mathlib.Core.Option.{none}
use Prim.Native.Nat.{ℕ, ◌≤◌}
use native.Mathlib.Omega.{arith}
use lib.ListN.{length}
use lib.Dec.{eqb}
use Rattle.rules.specs.declared.Setup.TheVariants.{Retired}
use Rattle.rules.specs.declared.Answer.TheVariants.{Flag}
use Rattle.rules.specs.Lists.{Bytes, packed}
use Rattle.rules.specs.State as R
use Rattle.rules.specs.State.{body_of, frame_body, queue_is, setup_is, handoff_is}
use Rattle.rules.specs.Progress.{outcome}
use Rattle.rules.specs.Setup.{retired, clear_runtime, retire}
use Rattle.rules.specs.Calls.{retires, step}
use Rattle.rules.specs.Buffers.{taken_by, wrong_code, queue_reach, repacked}
use Rattle.events.proofs.Laws.{listed-none}
use Rattle.outbox.specs.declared.Outbox.{Outbox}
use Rattle.outbox.specs.View.{end_u, unacked_of, ExactOutbox}
use Rattle.outbox.specs.Steps.{Left}
use Rattle.queue.specs.declared.Queue.{Queue}
use Rattle.queue.specs.View.{end_q, frames_of, Repacked}
use Rattle.peer_session.specs.declared.SessionState.{SessionState}
use Rattle.peer_session.specs.View.{state_of, Exact}
use Rattle.peer_session.specs.Sound.{sound_of, Full}
use Rattle.peer_session.proofs.Held.{outbox_cong, state_cong}
use Rattle.session.specs.Promise.{lent, Called}
use Rattle.session.proofs.Entry.{entered}
use Rattle.session.proofs.Lengths.{not_taken}
use Rattle.setup.specs.Steps.{staged, Retires, Forgets}
use Rattle.setup.proofs.Lending.{Plain, is-taken, leaves}
use Rattle.outbox.proofs.View.{stays-packed}

-- ---- the steps

module _ (s : SessionState) (q : Bytes) (x : SessionState) (y : Queue) (q' : Bytes) where
  -- x with another queue, and no handoff
  abbrev emptied : SessionState
  emptied =
      record {
        outbox = x.outbox;
        remote = x.remote;
        released = x.released;
        queue = y;
        waiting = x.waiting;
        retry = x.retry;
        clock = x.clock;
        stage = x.stage;
        handoff = record { body = x.handoff.body; len = x.handoff.len; id = x.handoff.id; number = x.handoff.number; sent = x.handoff.sent; acknowledged = x.handoff.acknowledged; present = false };
        policy = x.policy;
        reject = x.reject;
      }

  pub retires-is : Repacked s.queue q [] y q' → x ≡ staged s.stage.disposition Retired s → Retires s q emptied q'
  retires-is c e =
      rw e
      (record {
        does = λ o. ap (λ (fs : List R.Frame). setup_is Retired (queue_is fs (handoff_is none (state_of s o q)))) (sym c.frames);
        exact = λ size ex.
            record {
              outbox = ex.outbox;
              queued = c.exact;
              rest = record { waiting = ex.rest.waiting; retry = ex.rest.retry; handoff = ex.rest.handoff; handed = omega arith; reject = ex.rest.reject; rejects = ex.rest.rejects };
            };
        cleared = c;
        outbox = refl;
      })

module _ (s : SessionState) (o : Bytes) (x : Outbox) (o' : Bytes) where
  -- s with another outbox and no acks, nothing of it left to commit
  abbrev forgotten : SessionState
  forgotten =
      record {
        outbox = x;
        remote = s.remote;
        released = s.released;
        queue = s.queue;
        waiting = record { values = s.waiting.values; count = 0 };
        retry = record { values = s.retry.values; count = 0 };
        clock = record { last_replay_at = s.clock.last_replay_at; generation = s.clock.generation; released = s.clock.generation; persisted = s.clock.generation };
        stage = s.stage;
        handoff = s.handoff;
        policy = s.policy;
        reject = s.reject;
      }

  pub forgets-is : Left s.outbox o [] x o' → Forgets s o forgotten o'
  unfolding clear_runtime
  forgets-is f =
      record {
        does = λ q. state_cong (outbox_cong (sym f.next) (sym f.repacked.unacked)) refl refl refl refl;
        exact = λ size ex.
            record {
              outbox = f.repacked.exact;
              queued = ex.queued;
              rest =
                  record {
                    waiting = record { full = ex.rest.waiting.full; few = omega arith };
                    retry = record { full = ex.rest.retry.full; few = omega arith };
                    handoff = ex.rest.handoff;
                    handed = ex.rest.handed;
                    reject = ex.rest.reject;
                    rejects = ex.rest.rejects;
                  };
            };
        bytes = f.repacked.bytes ∙ ap (λ (ms : List R.Unacked). repacked (end_u s.outbox) (packed body_of ms) o) (sym f.repacked.unacked);
        queue = refl;
      }

-- ---- the call

pub retiring : {retain : Bool} → Plain (retires retain) false true true
unfolding taken_by wrong_code queue_reach
retiring = record { taken = refl; known = refl; reach = λ t. refl }

module _ (retain : Bool) (t : R.State) where
  rule_kept : (retain && eqb t.stage.disposition 4) ≡ true → step (retires retain) t ≡ outcome (retired t) (Flag true) []
  unfolding step retire
  rule_kept e = rw e

  rule_forgot : (retain && eqb t.stage.disposition 4) ≡ false → step (retires retain) t ≡ outcome (clear_runtime (retired t)) (Flag false) []
  unfolding step retire
  rule_forgot e = rw e

module _ (retain : Bool) (s : SessionState) (l : List ℕ) (d o q : Bytes) (lo : 65536 ≤ length o) (lq : 32768 ≤ length q) (sound : sound_of s ≡ true) (full : Full s)
    {r : SessionState} {q' : Bytes} (w : Retires s q r q') where
  exact : Exact s (length o) (length q)
  exact = (entered s o q sound full lo lq).good.exact

  bodies : q' ≡ repacked (end_q s.queue) (packed frame_body (frames_of r.queue q')) q
  bodies = w.cleared.bytes ∙ ap (λ (fs : List R.Frame). repacked (end_q s.queue) (packed frame_body fs) q) (sym w.cleared.frames)

  pub retained : (retain && eqb s.stage.disposition 4) ≡ true
      → Called (retires retain) s (lent l d o q) (record { session = r; answer = Flag true; events = 0 }) (lent l d o q')
  retained e =
      leaves retiring s l d o q not_taken (λ x. lo) (λ x. lq) sound full lo lq
      (record {
        shown = [];
        does = rule_kept retain (state_of s o q) e ∙ ap (λ (t : R.State). outcome t (Flag true) []) (w.does o);
        exact = w.exact (length o) exact;
        listed = listed-none l 0;
        quiet = λ x. refl;
        outbound = λ x.
            stays-packed s.outbox o exact.outbox
            ∙ ap (λ (y : Outbox). repacked (end_u s.outbox) (packed body_of (unacked_of y o)) o) (sym w.outbox);
        no_outbound = λ x. refl;
        queue = λ x. bodies;
        no_queue = is-taken;
      })

  pub forgot : {x : SessionState} {o' : Bytes} → (retain && eqb s.stage.disposition 4) ≡ false → Forgets r o x o'
      → Called (retires retain) s (lent l d o q) (record { session = x; answer = Flag false; events = 0 }) (lent l d o' q')
  forgot {x} {o'} e f =
      leaves retiring s l d o q not_taken (λ z. lo) (λ z. lq) sound full lo lq
      (record {
        shown = [];
        does =
            rule_forgot retain (state_of s o q) e
            ∙ ap (λ (t : R.State). outcome (clear_runtime t) (Flag false) []) (w.does o)
            ∙ ap (λ (t : R.State). outcome t (Flag false) []) (f.does q');
        exact = f.exact (length q') (w.exact (length o) exact);
        listed = listed-none l 0;
        quiet = λ z. refl;
        outbound = λ z. f.bytes ∙ ap (λ (y : Outbox). repacked (end_u y) (packed body_of (unacked_of x.outbox o')) o) w.outbox;
        no_outbound = is-taken;
        queue = λ z. bodies ∙ ap (λ (y : Queue). repacked (end_q s.queue) (packed frame_body (frames_of y q')) q) (sym f.queue);
        no_queue = is-taken;
      })

-- what is left to forget is the outbox that there was
pub still_exact : {s : SessionState} {q : Bytes} {r : SessionState} {q' : Bytes} {size : ℕ} → Retires s q r q' → ExactOutbox s.outbox size → ExactOutbox r.outbox size
still_exact w e = rw w.outbox e
