-- What a turn leaves of a session. Assumes nothing.
use mathlib.Core.Path.{◌≡◌, refl, sym, ap, ◌∙◌, subst}
use mathlib.Core.Bool.{Bool, true, false, not}
use mathlib.Core.List.{List, [], ◌∷◌}
use Prim.Native.Nat.{ℕ, ◌+◌}
use native.Mathlib.Omega.{arith}
use lib.ListN.{length, take, drop}
use lib.Seq.{length-take-le}
use lib.Dec.{ltb}
use borrow.Author.Tests.{lt-ltb, le-ltb}
use Rattle.rules.specs.Lists.{Bytes, empty, total, packed}
use Rattle.rules.specs.State as R
use Rattle.rules.specs.State.{body_of}
use Rattle.rules.specs.Buffers.{repacked}
use Rattle.rules.proofs.Lists.{length-packed}
use Rattle.rules.proofs.Buffers.{repacked-same}
use Rattle.numbers.specs.declared.Numbers.{Numbers}
use Rattle.numbers.specs.Seats.{in_use, ExactNumbers}
use Rattle.outbox.specs.declared.Outbox.{Outbox}
use Rattle.outbox.specs.View.{len_u, end_u, unacked_of, outbox_of, ExactOutbox}
use Rattle.outbox.specs.Steps.{Repacked, Left, Appended, Room}
use Rattle.outbox.proofs.View.{packed-unacked, exact-count, exact-total}
use Rattle.queue.specs.declared.Queue.{Queue}
use Rattle.queue.specs.View as Queues
use Rattle.queue.specs.View.{frames_of}
use Rattle.peer_session.specs.declared.RejectBody.{RejectBody}
use Rattle.peer_session.specs.declared.SessionState.{SessionState}
use Rattle.peer_session.specs.View.{view, state_of, reject_of, ExactRest, Exact}
use Rattle.peer_session.proofs.Held.{outbox_cong, state_cong}
use Rattle.delivery.specs.declared.Turn.{Turn}
use Rattle.delivery.specs.Turns.{acted, after_sending, during, Under}
use Rattle.draining.specs.Turns.{turn_of, Settling, Settles, advanced, Advances, with_queue, Finishes}

-- ---- the outbox

none_of : {A : Type 0} (xs : List A) → length xs ≡ 0 → xs ≡ []
none_of [] e = refl
none_of (x ∷ xs) e = absurd (omega arith)

abbrev renumbered : ℕ → Outbox → Outbox
renumbered n x = record { next = n; records = x.records; count = x.count }

-- another next number, and no byte moves
kept-outbox : (n : ℕ) (x : Outbox) (o : Bytes) → ExactOutbox x (length o) → Repacked x o (unacked_of x o) (renumbered n x) o
unfolding unacked_of
kept-outbox n x o e =
    record {
      unacked = refl;
      exact = record { full = e.full; few = e.few; small = e.small; room = e.room };
      bytes =
          sym
          (repacked-same (end_u x) (packed body_of (unacked_of x o)) o (packed-unacked x o)
          (length-packed body_of (unacked_of x o) ∙ sym (exact-total x o e)));
      size = refl;
    }

module _ (t : Turn) (reject : RejectBody) (x : Outbox) (o : Bytes) (h : Settling t reject x (length o)) where
  abbrev j : Bytes
  j = reject_of reject

  alone : t.sent ≡ true → unacked_of x o ≡ []
  alone e = none_of (unacked_of x o) (sym (exact-count x o h.exact) ∙ h.alone e)

  did : (a b : Bool) → t.sent ≡ a → t.dropped ≡ b
      → acted a b x.next j (unacked_of x o) ≡ acted t.sent t.dropped x.next j (unacked_of x o)
  did a b p q =
      sym
      (ap (λ (z : Bool). acted z t.dropped x.next j (unacked_of x o)) p ∙ ap (λ (z : Bool). acted a z x.next j (unacked_of x o)) q)

  settles_as : (a b : Bool) (r : Outbox) (o' : Bytes) → t.sent ≡ a → t.dropped ≡ b → Repacked x o (acted a b x.next j (unacked_of x o)) r o'
      → r.next ≡ after_sending a x.next → Settles t j x o r o'
  settles_as a b r o' p q k m =
      record {
        repacked = subst (λ (us : List R.Unacked). Repacked x o us r o') (did a b p q) k;
        next = m ∙ ap (λ (z : Bool). after_sending z x.next) (sym p);
      }

  pub settles_both : t.sent ≡ true → t.dropped ≡ true → Settles t j x o (renumbered (x.next + 1) x) o
  settles_both p q =
      settles_as true true (renumbered (x.next + 1) x) o p q
      (subst (λ (us : List R.Unacked). Repacked x o us (renumbered (x.next + 1) x) o) (alone p) (kept-outbox (x.next + 1) x o h.exact)) refl

  pub settles-sent : (r : Outbox) (o' : Bytes) → t.sent ≡ true → t.dropped ≡ false → Appended x o j r o' → Settles t j x o r o'
  settles-sent r o' p q a = settles_as true false r o' p q a.repacked a.next

  pub settles_dropped : (r : Outbox) (o' : Bytes) → t.sent ≡ false → t.dropped ≡ true → Left x o [] r o' → Settles t j x o r o'
  settles_dropped r o' p q a = settles_as false true r o' p q a.repacked a.next

  pub settles-none : t.sent ≡ false → t.dropped ≡ false → Settles t j x o x o
  settles-none p q = settles_as false false x o p q (kept-outbox x.next x o h.exact) refl

  pub reject-room : t.sent ≡ true → Room x (length o) 0 reject.len
  unfolding total
  reject-room p =
      let c : x.count ≡ 0 = h.alone p in
      let e : end_u x ≡ 0 = ap (λ (k : ℕ). total len_u (take k x.records)) c in
      record { exact = h.exact; next = h.next p; few = omega arith; used = sym e; short = omega (arith, h.short) }

-- ---- the session

settled-outbox : {t : Turn} {j : Bytes} {x : Outbox} {o : Bytes} {r : Outbox} {o' : Bytes} → Settles t j x o r o'
    → outbox_of r o' ≡ record { next = after_sending t.sent x.next; unacked = acted t.sent t.dropped x.next j (unacked_of x o) }
settled-outbox h = outbox_cong h.next h.repacked.unacked

module _ (t : Turn) (w : Numbers) (s : SessionState) (o : Bytes) (x : Outbox) (o' : Bytes) (h : Settles t (reject_of s.reject) s.outbox o x o') where
  -- what a turn stands for, with any frames
  pub advanced-view : (fs gs : List R.Frame) → view fs (advanced s x w t) o' ≡ during (view gs s o) fs (in_use w) t
  advanced-view fs gs = state_cong (settled-outbox h) refl refl refl refl

  pub advanced-rest : ExactRest s → ExactNumbers w → ExactRest (advanced s x w t)
  advanced-rest e k = record { waiting = k; retry = e.retry; handoff = e.handoff; handed = e.handed; reject = e.reject; rejects = e.rejects }

  pub advanced-bytes : o' ≡ repacked (end_u s.outbox) (packed body_of (unacked_of x o')) o
  advanced-bytes = h.repacked.bytes ∙ ap (λ (us : List R.Unacked). repacked (end_u s.outbox) (packed body_of us) o) (sym h.repacked.unacked)

-- ---- a turn that begins

module _ (s : SessionState) (o q : Bytes) (e : Exact s (length o) (length q)) where
  flagged : (n : ℕ) (us : List R.Unacked) → n ≡ length us → ltb 0 n ≡ not (empty us)
  flagged n [] h = le-ltb 0 n (omega arith)
  flagged n (u ∷ us) h = lt-ltb 0 n (omega arith)

  pub begins : Under (state_of s o q) (turn_of s)
  begins =
      record {
        mode = refl;
        failed = refl;
        next = refl;
        unacked = flagged s.outbox.count (unacked_of s.outbox o) (exact-count s.outbox o e.outbox);
        alone = λ z. let y : ◌≡◌ {A = ℕ} 0 1 = cc in absurd (omega arith);
        inbound = λ z d. let y : ◌≡◌ {A = ℕ} 0 1 = cc in omega arith;
        reject = omega (arith, length-take-le s.reject.len s.reject.bytes (omega (arith, e.rest)), e.rest);
      }

pub finished : {t : Turn} {w : Numbers} {taken : ℕ} {s : SessionState} {o q : Bytes} {r : SessionState} {x : Queue} {o' q' : Bytes} → Advances t w s o r o'
    → Queues.Repacked s.queue q (drop taken (frames_of s.queue q)) x q' → Finishes t w taken s o q (with_queue x r) o' q'
finished {x = x} a h = record { is = ap (with_queue x) a.is; settles = a.settles; left = h }
