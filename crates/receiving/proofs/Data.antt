-- receive_data. Assumes nothing.
use mathlib.Core.Path.{◌≡◌, refl, sym, ap, ◌∙◌, subst}
use mathlib.Core.Bool.{true, false}
use mathlib.Core.List.{List}
use Prim.Native.Nat.{ℕ, ◌+◌, ◌*◌, ◌≤◌}
use native.Mathlib.Omega.{arith}
use lib.ListN.{length}
use borrow.Author.Tests.{le-ltb}
use Rattle.rules.specs.declared.HostStatus.{HostStatus}
use Rattle.rules.specs.declared.Answer.TheVariants.{Flag}
use Rattle.rules.specs.declared.Refusal.{Refusal}
use Rattle.rules.specs.Lists.{Bytes, packed}
use Rattle.rules.specs.State as R
use Rattle.rules.specs.State.{Frame, State, frame_body, body_of}
use Rattle.rules.specs.Progress.{Progress, halts, failing, answers}
use Rattle.rules.specs.Calls.{Call, gets_data, step}
use Rattle.rules.specs.Buffers.{takes, taken_by, wrong_code, repacked, queue_end, queue_reach}
use Rattle.rules.proofs.Lists.{length-packed}
use Rattle.rules.proofs.Buffers.{repacked-same}
use Rattle.rules.proofs.Sound.{parts-sound, awaiting-sound}
use Rattle.std.specs.Prelude.{Option, Some}
use Rattle.events.specs.Written.{books, final, ends}
use Rattle.events.proofs.Laws.{write-none}
use Rattle.numbers.specs.Seats.{ExactNumbers}
use Rattle.outbox.specs.declared.Outbox.{Outbox}
use Rattle.outbox.specs.View.{end_u, unacked_of}
use Rattle.queue.specs.declared.Queue.{Queue}
use Rattle.queue.specs.View.{end_q, frames_of, ExactQueue}
use Rattle.queue.proofs.View.{frames-bytes, frames-total}
use Rattle.peer_session.specs.declared.SessionState.{SessionState}
use Rattle.peer_session.specs.View.{held, state_of, Exact}
use Rattle.peer_session.proofs.View.{Good}
use Rattle.session.specs.declared.Returned.{Returned}
use Rattle.session.specs.Promise.{lent, exit, Called, Turned}
use Rattle.receiving.specs.declared.Verdict.{Verdict}
use Rattle.receiving.specs.declared.Verdict.TheVariants.{Refuse, Fail, Again, New}
use Rattle.draining.specs.declared.Ended.{Ended}
use Rattle.draining.specs.Ends.{Stores, Fails}
use Rattle.receiving.specs.Checks.{verdict_of, again, anew, ruled, reached, Checked, Acknowledges, Acknowledging, Receiving, Anew}
use Rattle.draining.specs.Arrived.{Arrived}
use Rattle.receiving.specs.Calls.{returned}
use Rattle.outbox.proofs.View.{stays-packed}
use Rattle.draining.proofs.Failing.{failing-goes, fails_final, fails_stores}
use Rattle.receiving.proofs.Checks.{as_ruled, as_reached, new-frame, old_frame}
use Rattle.draining.proofs.Failing.{fresh-books}
use Rattle.draining.proofs.Calls as Calls
use Rattle.draining.proofs.Calls.{arrived-good, arrived_entered}

-- ---- the call takes all four buffers

pub data_takes : (status : HostStatus) (f : Frame) → taken_by (gets_data status f) ≡ takes true true true true
unfolding taken_by
data_takes status f = refl

pub data_known : (status : HostStatus) (f : Frame) → f.kind ≤ 2 → wrong_code (gets_data status f) ≡ false
unfolding wrong_code
data_known status f h = le-ltb 2 f.kind h

-- ---- past the tests at the entry

pub check_fits : {s : SessionState} {l : List ℕ} {d o q : Bytes} → Arrived s l d o q → ExactNumbers s.waiting × (s.queue.count ≤ 256)
check_fits {s} {l} {d} {o} {q} a = let g : Good s o q = arrived-good s l d o q a in (g.exact.rest.waiting, g.exact.queued.few)

pub fail_fits : {s : SessionState} {l : List ℕ} {d o q : Bytes} → Arrived s l d o q → ExactQueue s.queue (length q) × (4 * 0 + 4 ≤ length l)
fail_fits {s} {l} {d} {o} {q} a = ((arrived-good s l d o q a).exact.queued, omega (arith, a.list))

module _ (status : HostStatus) (f : Frame) (s : SessionState) (l : List ℕ) (d o q : Bytes) (a : Arrived s l d o q) (k : f.kind ≤ 2) where
  abbrev c : Call
  c = gets_data status f

  abbrev S : State
  S = state_of s o q

  good : Good s o q
  good = arrived-good s l d o q a

  exact : Exact s (length o) (length q)
  exact = good.exact

  -- ---- by the verdict

  module _ {v : Verdict} (h : Checked f.number (length f.body) s v) where
    is : v ≡ verdict_of f S
    is = h o q f.body f.kind exact.queued refl

    module _ (w : Verdict) (e : v ≡ w) where
      step_is : step c S ≡ ruled w status f S
      step_is = as_ruled status f S k a.low ∙ ap (λ (z : Verdict). ruled z status f S) (sym is ∙ e)

      reach-is : queue_reach c S ≡ reached w status f S
      reach-is = as_reached status f S k a.low ∙ ap (λ (z : Verdict). reached z status f S) (sym is ∙ e)

      stores_at : {n : ℕ} {r : SessionState} {o' q' : Bytes} → reached w status f S ≡ n → Stores s n o q r o' q' → Stores s (queue_reach c S) o q r o' q'
      stores_at {n} {r} {o'} {q'} z st = subst (λ (m : ℕ). Stores s m o q r o' q') (sym (reach-is ∙ z)) st

      comes : {e : Ended} {l' : List ℕ} {d' o' q' : Bytes} {end : ℕ} (p : Progress) → ruled w status f S ≡ answers (Flag true) (failing p)
          → Stores s (queue_reach c S) o q e.session o' q'
          → ((us : List R.Unacked) → final us (failing p) (books l 0 d 0) ≡ ends e.stop (state_of e.session o' q') (books l' e.events d' end))
          → {r : Returned} → r ≡ returned e → Called c s (lent l d o q) r (lent l' d' o' q')
      comes {l' = l'} {d' = d'} {o' = o'} {q' = q'} p z st fin re =
          ap (λ (y : Returned). exit (held y.session) y.answer y.events (lent l' d' o' q')) re
          ∙ Calls.comes c (data_takes status f) s l d o q a.list a.delivery a.outbound a.queue (data_known status f k) a.good
          (arrived_entered s l d o q a) st (failing p) (Flag true) (step_is ∙ z) fin

    ended : queue_end S ≡ end_q s.queue
    ended = frames-total s.queue q exact.queued

    pub refused_by : {x : Refusal} {r : Returned} → v ≡ Refuse x → Turned s x r → Called c s (lent l d o q) r (lent l d o q)
    refused_by {x} e t =
        Calls.refused c (data_takes status f) s l d o q a.list a.delivery a.outbound a.queue (data_known status f k) a.good
        (arrived_entered s l d o q a) t (reach-is (Refuse x) e) (step_is (Refuse x) e)

    pub failed_by : {x : Refusal} {r : Returned} {y : Ended} {l' : List ℕ} {q' : Bytes} → v ≡ Fail x → Fails x s l 0 q y l' q' → r ≡ returned y → Called c s (lent l d o q) r (lent l' d o q')
    failed_by {x} e fl re =
        comes (Fail x) e (halts x S) refl (stores_at (Fail x) e ended (fails_stores fl o exact))
        (λ us. fails_final fl us (halts x S) (books l 0 d 0) d 0 o (frames_of s.queue q) (fresh-books l d) (ap (ends (Some x) S) (write-none us (books l 0 d 0)))) re

    kept-stores : {y : Ended} {l' : List ℕ} → Acknowledges f.number s l y l' → Stores s (end_q s.queue) o q y.session o q
    kept-stores {y} h =
        record {
          exact = h.exact (length o) (length q) exact;
          outbound = stays-packed s.outbox o exact.outbox ∙ ap (λ (z : Outbox). repacked (end_u s.outbox) (packed body_of (unacked_of z o)) o) (sym h.outbox);
          queue =
              sym
              (repacked-same (end_q s.queue) (packed frame_body (frames_of s.queue q)) q (frames-bytes s.queue q exact.queued)
              (length-packed frame_body (frames_of s.queue q) ∙ frames-total s.queue q exact.queued))
              ∙ ap (λ (z : Queue). repacked (end_q s.queue) (packed frame_body (frames_of z q)) q) (sym h.queue);
        }

    pub again-fits : v ≡ Again → Acknowledging f.number s (length l)
    again-fits e =
        let old = old_frame f S (sym is ∙ e) in
        record {
          waits = exact.rest.waiting;
          room = λ r. omega (arith, (awaiting-sound f.number S good.sound old.0 r old.1).1.room);
          list = a.list;
        }

    pub again_by : {r : Returned} {y : Ended} {l' : List ℕ} → v ≡ Again → Acknowledges f.number s l y l' → r ≡ returned y → Called c s (lent l d o q) r (lent l' d o q)
    again_by {r} {y} {l'} e h re =
        comes Again e (again f.number S) refl (stores_at Again e ended (kept-stores h))
        (λ us.
        failing-goes us (again f.number S) (books l 0 d 0) (books l' y.events d 0) (state_of y.session o q) (h.does o q d us)
        ∙ ap (λ (z : Option Refusal). ends z (state_of y.session o q) (books l' y.events d 0)) (sym h.stop)) re

    pub new-fits : v ≡ New → Receiving f s l d o q
    new-fits e =
        record {
          exact = exact;
          good = parts-sound S good.sound;
          frame = new-frame f S k (sym is ∙ e);
          low = a.low;
          listed = a.list;
          room = a.delivery;
        }

    pub new_by : {r : Returned} {y : Ended} {l' : List ℕ} {d' o' q' : Bytes} → v ≡ New → Anew status f s l d o q y l' d' o' q' → r ≡ returned y
        → Called c s (lent l d o q) r (lent l' d' o' q')
    new_by e h re = comes New e (anew status f S) refl (stores_at New e refl h.stores) h.does re
