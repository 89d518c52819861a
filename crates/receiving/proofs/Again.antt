-- A duplicate. Assumes nothing.
use Rattle.std.specs.Prelude.{if◌then◌else◌, None}
use mathlib.Core.Path.{◌≡◌, refl, sym, ap, ◌∙◌}
use mathlib.Core.Bool.{Bool}
use mathlib.Core.List.{List, [], ◌∷◌}
use Prim.Native.Nat.{ℕ, ◌*◌, ◌≤◌, ◌<◌}
use borrow.Author.Tests.{le-leb, lt-leb}
use Rattle.stores.specs.Placed.{placed}
use Rattle.rules.specs.Lists.{Bytes, packed, put, itself}
use Rattle.rules.specs.State.{Unacked, State}
use Rattle.rules.specs.Events.{answer_ack, listed}
use Rattle.rules.specs.Progress.{Progress, goes, stays, ◌then◌, request}
use Rattle.rules.specs.Receiving.{receive_again, awaiting}
use Rattle.rules.specs.Buffers.{flat}
use Rattle.events.specs.Written.{Listed, asked, books, final, ends}
use Rattle.events.proofs.Laws.{then_goes, write-none}
use Rattle.numbers.specs.declared.Numbers.{Numbers}
use Rattle.numbers.specs.Seats.{in_use, Holds}
use Rattle.peer_session.specs.declared.SessionState.{SessionState}
use Rattle.peer_session.specs.View.{state_of}
use Rattle.delivery.proofs.Written.{write-asked}
use Rattle.receiving.specs.Checks.{Acknowledges}
use Rattle.draining.proofs.Failing.{listed-books, fresh-books}

-- ---- a commit is requested, in the books

pub asked-final : (us : List Unacked) (t : State) {l l' : List ℕ} {n n' : ℕ} (d : Bytes) (at : ℕ) → Listed (asked t.clock) l n l' n'
    → final us (request t) (books l n d at) ≡ ends None t (books l' n' d at)
unfolding request
asked-final us t {l} {l'} {n} {n'} d at h = ap (ends None t) (write-asked t.clock (books l n d at) l' n' h us)

-- ---- answered, or it waits

answer-listed : (n : ℕ) (l l' : List ℕ) → l' ≡ placed l (4 * 0) (10 ∷ n ∷ 0 ∷ 0 ∷ []) → Listed (answer_ack n ∷ []) l 0 l' 1
unfolding flat listed
answer-listed n l l' e us = record { count = refl; words = λ at. e }

module _ (n : ℕ) (s : SessionState) (l : List ℕ) where
  pub answers-again : (l₁ l' : List ℕ) (k : ℕ) → n ≤ s.released → l₁ ≡ placed l (4 * 0) (10 ∷ n ∷ 0 ∷ 0 ∷ []) → Listed (asked s.clock) l₁ 1 l' k
      → Acknowledges n s l (record { session = s; events = k; stop = None }) l'
  unfolding packed
  answers-again l₁ l' k h e a =
      record {
        does = λ o q d us.
            let t : State = state_of s o q in
            let r : receive_again n t ≡ goes t (answer_ack n ∷ []) =
            ap {B = Progress} (λ (b : Bool). if b then goes t (answer_ack n ∷ []) else stays (awaiting n t)) (le-leb n s.released h) in
            let w : final us (receive_again n t) (books l 0 d 0) ≡ ends None t (books l₁ 1 d 0) =
            ap (λ (p : Progress). final us p (books l 0 d 0)) r ∙ ap (ends None t) (listed-books us d 0 refl (answer-listed n l l₁ e us)) in
            then_goes us (receive_again n t) request (books l 0 d 0) (books l₁ 1 d 0) t (fresh-books l d) w ∙ asked-final us t d 0 a;
        stop = refl;
        exact = λ a b x. x;
        outbox = refl;
        queue = refl;
      }

  abbrev next : Numbers → SessionState
  next w =
      record {
        outbox = s.outbox;
        remote = s.remote;
        released = s.released;
        queue = s.queue;
        waiting = w;
        retry = s.retry;
        clock = s.clock;
        stage = s.stage;
        handoff = s.handoff;
        policy = s.policy;
        reject = s.reject;
      }

  pub waits-again : (w : Numbers) (l' : List ℕ) (k : ℕ) → s.released < n → Holds (put itself n (in_use s.waiting)) w → Listed (asked s.clock) l 0 l' k
      → Acknowledges n s l (record { session = next w; events = k; stop = None }) l'
  waits-again w l' k h p a =
      record {
        does = λ o q d us.
            let t : State = state_of s o q in
            let u : State = state_of (next w) o q in
            let r : receive_again n t ≡ stays (awaiting n t) =
            ap {B = Progress} (λ (b : Bool). if b then goes t (answer_ack n ∷ []) else stays (awaiting n t)) (lt-leb n s.released h) in
            let e : awaiting n t ≡ u =
            ap {B = State}
            (λ (ns : List ℕ). record { outbox = t.outbox; inbox = record { remote = t.inbox.remote; released = t.inbox.released; queue = t.inbox.queue; waiting = ns; retry = t.inbox.retry }; clock = t.clock; stage = t.stage; fixed = t.fixed })
            (sym p.held) in
            let w : final us (receive_again n t) (books l 0 d 0) ≡ ends None u (books l 0 d 0) =
            ap (λ (p : Progress). final us p (books l 0 d 0)) (r ∙ ap stays e) ∙ ap (ends None u) (write-none us (books l 0 d 0)) in
            then_goes us (receive_again n t) request (books l 0 d 0) (books l 0 d 0) u (fresh-books l d) w ∙ asked-final us u d 0 a;
        stop = refl;
        exact = λ a b x.
            record {
              outbox = x.outbox;
              queued = x.queued;
              rest = record { waiting = p.exact; retry = x.rest.retry; handoff = x.rest.handoff; handed = x.rest.handed; reject = x.rest.reject; rejects = x.rest.rejects };
            };
        outbox = refl;
        queue = refl;
      }
