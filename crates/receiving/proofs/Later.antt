-- Data that waits in the queue. Assumes nothing.
use Rattle.std.specs.Prelude.{if◌then◌else◌, None, Some}
use mathlib.Core.Path.{◌≡◌, refl, sym, ap, ◌∙◌, subst}
use mathlib.Core.Bool.{Bool, true, false, not}
use mathlib.Core.List.{List, [], ◌∷◌, ◌++◌}
use Prim.Native.Nat.{ℕ, ◌+◌, ◌-◌, ◌≤◌, ◌<◌, max}
use native.Mathlib.Omega.{arith}
use lib.ListN.{length, take, drop, replicate, take-append-drop}
use lib.Seq.{drop_at, drop-drop}
use borrow.Author.Tests.{lt-ltb, le-ltb}
use Rattle.stores.specs.Fronts.{front}
use Rattle.stores.proofs.Packs.{repacked-grown}
use Rattle.stores.proofs.Seats.{put-after}
use Rattle.rules.specs.declared.HostStatus.{HostStatus}
use Rattle.rules.specs.declared.Refusal.{Refusal}
use Rattle.rules.specs.declared.Refusal.TheVariants.{QueueCount, QueueBytes}
use Rattle.rules.specs.Lists.{Bytes, every, any, total, packed, put}
use Rattle.rules.specs.State as R
use Rattle.rules.specs.State.{Frame, State, frame_number, frame_body, frame_size, is_frame, queue_is}
use Rattle.rules.specs.Progress.{Progress, stays, halts, ◌then◌, request}
use Rattle.rules.specs.Receiving.{up_to, queued, queue_full, queue_overrun, enqueue, drain, receive_new}
use Rattle.rules.specs.Buffers.{repacked, queue_end}
use Rattle.rules.proofs.Lists.{total-append, length-packed}
use Rattle.rules.proofs.Sound.{Sound, parts-sound}
use Rattle.events.specs.Written.{Listed, asked, books, final, ends}
use Rattle.events.proofs.Laws.{then_goes, then_stops, write-none}
use Rattle.queue.specs.declared.Queue.{Queue}
use Rattle.queue.specs.View.{end_q, frames_of, Repacked}
use Rattle.queue.specs.Steps.{Enters}
use Rattle.queue.proofs.View.{frames-total, frames-length}
use Rattle.peer_session.specs.declared.SessionState.{SessionState}
use Rattle.peer_session.specs.View.{state_of, Exact}
use Rattle.delivery.specs.declared.Turn.{Turn}
use Rattle.delivery.proofs.Written.{few-asked}
use Rattle.draining.specs.declared.Ended.{Ended}
use Rattle.draining.specs.Turns.{turn_of, with_queue}
use Rattle.draining.specs.Ends.{Fails, Carrying, Carries}
use Rattle.receiving.specs.Checks.{anew, reach_new, Receiving, Taking, Anew}
use Rattle.draining.proofs.Settled.{begins}
use Rattle.draining.proofs.Failing.{leaves-final, fails_final, fails_stores}
use Rattle.draining.proofs.Failing.{fresh-books}
use Rattle.receiving.proofs.Again.{asked-final}
use Rattle.receiving.proofs.Choice.{new-queues, reach-later}
use Rattle.receiving.proofs.Now.{limits, good, new-sound, body-short, stored-end}

-- ---- a store that grew and then shrank

drop_past : (m j : ℕ) (a b : Bytes) → m ≤ j → drop m a ≡ drop m b → drop j a ≡ drop j b
drop_past m j a b h e =
    let z : m + (j - m) ≡ j = omega arith in
    ap (λ (k : ℕ). drop k a) (sym z) ∙ sym (drop-drop (j - m) m a) ∙ ap (drop (j - m)) e ∙ drop-drop (j - m) m b ∙ ap (λ (k : ℕ). drop k b) z

grown_then : (n : ℕ) (b c q q₁ : Bytes) → n ≤ length b → q₁ ≡ repacked n b q → repacked (length b) c q₁ ≡ repacked (length b) c q
unfolding repacked
grown_then n b c q q₁ h e =
    let z : drop (length b) q₁ ≡ drop (length b) q = ap (drop (length b)) (e ∙ repacked-grown n b q h) ∙ drop_at b (drop (length b) q) (length b) refl in
    ap (λ (x : Bytes). c ++ (replicate (length b - length c) 0 ++ x)) (drop_past (length b) (max (length b) (length c)) q₁ q (omega arith) z)

put-total : (f : Frame) (fs : List Frame) → any (is_frame f.number) fs ≡ false → total frame_size (put frame_number f fs) ≡ total frame_size fs + length f.body
unfolding total
put-total f fs e =
    let k : ℕ = front (up_to f.number) fs in
    let s : total frame_size (take k fs) + total frame_size (drop k fs) ≡ total frame_size fs =
    sym (total-append frame_size (take k fs) (drop k fs)) ∙ ap (total frame_size) (take-append-drop k fs) in
    let p : total frame_size (put frame_number f fs) ≡ total frame_size (take k fs) + (length f.body + total frame_size (drop k fs)) =
    ap (total frame_size) (put-after frame_number f fs e) ∙ total-append frame_size (take k fs) (f ∷ drop k fs) in
    omega arith

-- ---- the rule

module _ (f : Frame) (s : State) where
  enqueue-kept : queued f.number s ≡ true → enqueue f s ≡ stays s
  unfolding enqueue
  enqueue-kept e = rw e

  module _ (new : queued f.number s ≡ false) where
    enqueue-many : s.fixed.policy.messages < length s.inbox.queue + 1 → enqueue f s ≡ halts QueueCount s
    unfolding enqueue
    enqueue-many h = rw (new, lt-ltb s.fixed.policy.messages (length s.inbox.queue + 1) h)

    module _ (few : length s.inbox.queue + 1 ≤ s.fixed.policy.messages) where
      enqueue-long : s.fixed.policy.bytes < total frame_size s.inbox.queue + length f.body → enqueue f s ≡ halts QueueBytes s
      unfolding enqueue
      enqueue-long h =
          rw (new, le-ltb s.fixed.policy.messages (length s.inbox.queue + 1) few, lt-ltb s.fixed.policy.bytes (total frame_size s.inbox.queue + length f.body) h)

      enqueue-joins : total frame_size s.inbox.queue + length f.body ≤ s.fixed.policy.bytes
          → enqueue f s ≡ stays (queue_is (put frame_number f s.inbox.queue) s)
      unfolding enqueue
      enqueue-joins h =
          rw (new, le-ltb s.fixed.policy.messages (length s.inbox.queue + 1) few, le-ltb s.fixed.policy.bytes (total frame_size s.inbox.queue + length f.body) h)

abbrev later : Frame → State → ℕ
later f s = if every (not (queued f.number s) ∷ not (queue_full s) ∷ not (queue_overrun f s) ∷ []) then queue_end s + length f.body else queue_end s

-- ---- the call

module _ {status : HostStatus} {t : Turn} {f : Frame} {s : SessionState} {l : List ℕ} {d o q : Bytes} (pre : Taking false status t f s l d o q) where
  abbrev S : State
  S = state_of s o q

  abbrev fs : List Frame
  fs = frames_of s.queue q

  abbrev rc : Receiving f s l d o q
  rc = pre.receiving

  is-enqueue : receive_new status f S ≡ enqueue f S
  is-enqueue = new-queues status f S pre.is

  reach-is : (k : ℕ) → later f S ≡ k → reach_new status f S ≡ k
  reach-is k e = reach-later status f S pre.is ∙ e

  ended : queue_end S ≡ end_q s.queue
  ended = frames-total s.queue q rc.exact.queued

  count : length fs ≡ s.queue.count
  count = frames-length s.queue q rc.exact.queued

  pub body-fits : length f.body ≤ 16384
  body-fits = body-short rc

  -- ---- refused

  refused : (x : Refusal) → enqueue f S ≡ halts x S → later f S ≡ queue_end S → {e : Ended} {l' : List ℕ} {q' : Bytes} → Fails x s l 0 q e l' q' → Anew status f s l d o q e l' d o q'
  refused x h k a =
      record {
        end = 0;
        does = λ us.
            fails_final a us (anew status f S) (books l 0 d 0) d 0 o fs (fresh-books l d)
            (then_stops us (receive_new status f S then request) (drain status) (books l 0 d 0) (books l 0 d 0) x S
            (then_stops us (receive_new status f S) request (books l 0 d 0) (books l 0 d 0) x S
            (ap (λ (p : Progress). final us p (books l 0 d 0)) (is-enqueue ∙ h) ∙ ap (ends (Some x) S) (write-none us (books l 0 d 0)))));
        stores = stored-end rc (reach-is (end_q s.queue) (k ∙ ended)) (fails_stores a o rc.exact);
      }

  -- ---- it goes on with the queue as it is

  module _ {l₁ : List ℕ} {n : ℕ} (li : Listed (asked s.clock) l 0 l₁ n) where
    few : n ≤ 1
    few = omega (arith, few-asked s.clock (books l 0 d 0) l₁ n li)

    pub kept_carrying : length l₁ ≡ length l → Carrying t s.waiting 0 s l₁ n d 0 o q
    kept_carrying e =
        subst (λ (z : Turn). Carrying z s.waiting 0 s l₁ n d 0 o q) (sym pre.turn)
        (record {
          exact = rc.exact;
          under = begins s o q rc.exact;
          good = rc.good;
          frames = (good rc).1.frames;
          waits = rc.exact.rest.waiting;
          within = omega arith;
          slow = omega (arith, rc.low);
          few = omega (arith, few);
          short = omega arith;
          listed = omega (arith, rc.listed);
          room = rc.room;
        })

    pub kept-queued : any (is_frame f.number) fs ≡ true → {e : Ended} {l' : List ℕ} {d' o' q' : Bytes} → Carries status t s.waiting 0 s l₁ n d 0 o q e l' d' o' q'
        → Anew status f s l d o q e l' d' o' q'
    kept-queued z {e} {l'} {d'} {o'} {q'} c =
        let c' : Carries status (turn_of s) s.waiting 0 s l₁ n d 0 o q e l' d' o' q' =
        subst (λ (y : Turn). Carries status y s.waiting 0 s l₁ n d 0 o q e l' d' o' q') pre.turn c in
        record {
          end = c'.end;
          does = λ us.
              c'.does us (receive_new status f S then request) (books l 0 d 0) (fresh-books l d)
              (then_goes us (receive_new status f S) request (books l 0 d 0) (books l 0 d 0) S (fresh-books l d)
              (ap (λ (p : Progress). final us p (books l 0 d 0)) (is-enqueue ∙ enqueue-kept f S z) ∙ ap (ends None S) (write-none us (books l 0 d 0)))
              ∙ asked-final us S d 0 li);
          stores = stored-end rc (reach-is (end_q s.queue) (ap (λ (b : Bool). if every (not b ∷ not (queue_full S) ∷ not (queue_overrun f S) ∷ []) then queue_end S + length f.body else queue_end S) z ∙ ended)) c'.stores;
        }

  module _ (new : any (is_frame f.number) fs ≡ false) where
    pub queue-many : s.policy.messages < s.queue.count + 1 → {e : Ended} {l' : List ℕ} {q' : Bytes} → Fails QueueCount s l 0 q e l' q' → Anew status f s l d o q e l' d o q'
    queue-many h a =
        let m : s.policy.messages < length fs + 1 = omega (arith, count) in
        refused QueueCount (enqueue-many f S new m)
        (rw (new, lt-ltb s.policy.messages (length fs + 1) m)) a

    module _ (room : s.queue.count + 1 ≤ s.policy.messages) where
      room' : length fs + 1 ≤ s.policy.messages
      room' = omega (arith, count)

      pub queue_long : s.policy.bytes < end_q s.queue + length f.body → {e : Ended} {l' : List ℕ} {q' : Bytes} → Fails QueueBytes s l 0 q e l' q' → Anew status f s l d o q e l' d o q'
      queue_long h a =
          let m : s.policy.bytes < total frame_size fs + length f.body = omega (arith, ended) in
          refused QueueBytes (enqueue-long f S new room' m)
          (rw (new, le-ltb s.policy.messages (length fs + 1) room', lt-ltb s.policy.bytes (total frame_size fs + length f.body) m)) a

      -- ---- it joins the queue

      module _ (short : end_q s.queue + length f.body ≤ s.policy.bytes) where
        short' : total frame_size fs + length f.body ≤ s.policy.bytes
        short' = omega (arith, ended)

        pub enters : Enters s.queue q f.number (length f.body)
        enters =
            record {
              exact = rc.exact.queued;
              free = omega (arith, (limits S (good rc)).messages);
              short = omega (arith, (limits S (good rc)).bytes);
              new = new;
            }

        module _ {more : Queue} {q₁ : Bytes} (h : Repacked s.queue q (put frame_number f fs) more q₁) where
          abbrev r : SessionState
          r = with_queue more s

          abbrev T : State
          T = state_of r o q₁

          came : (us : List R.Unacked) → final us (receive_new status f S) (books l 0 d 0) ≡ ends None T (books l 0 d 0)
          came us =
              ap (λ (p : Progress). final us p (books l 0 d 0)) (is-enqueue ∙ enqueue-joins f S new room' short')
              ∙ ap (ends None (queue_is (put frame_number f fs) S)) (write-none us (books l 0 d 0))
              ∙ ap (λ (gs : List Frame). ends None (queue_is gs S) (books l 0 d 0)) (sym h.frames)

          joined : Sound T
          joined = leaves-final [] Sound (receive_new status f S) (books l 0 d 0) (books l 0 d 0) None T (new-sound rc status) (came [])

          exact : Exact r (length o) (length q₁)
          exact =
              let e : Exact s (length o) (length q) = rc.exact in
              record {
                outbox = e.outbox;
                queued = h.exact;
                rest = record { waiting = e.rest.waiting; retry = e.rest.retry; handoff = e.rest.handoff; handed = e.rest.handed; reject = e.rest.reject; rejects = e.rest.rejects };
              }

          grown : length (packed frame_body (put frame_number f fs)) ≡ queue_end S + length f.body
          grown = length-packed frame_body (put frame_number f fs) ∙ put-total f fs new

          more_end : end_q more ≡ length (packed frame_body (put frame_number f fs))
          more_end = sym (frames-total more q₁ h.exact) ∙ ap (total frame_size) h.frames ∙ sym (length-packed frame_body (put frame_number f fs))

          module _ {l₁ : List ℕ} {n : ℕ} (li : Listed (asked s.clock) l 0 l₁ n) where
            pub joins_carrying : length l₁ ≡ length l → Carrying t s.waiting 0 r l₁ n d 0 o q₁
            joins_carrying e =
                subst (λ (z : Turn). Carrying z s.waiting 0 r l₁ n d 0 o q₁) (sym pre.turn)
                (record {
                  exact = exact;
                  under = begins r o q₁ exact;
                  good = parts-sound T joined;
                  frames = joined.1.frames;
                  waits = rc.exact.rest.waiting;
                  within = omega arith;
                  slow = omega (arith, rc.low);
                  few = omega (arith, few li);
                  short = omega arith;
                  listed = omega (arith, rc.listed);
                  room = rc.room;
                })

            pub joins_queue : {e : Ended} {l' : List ℕ} {d' o' q' : Bytes} → Carries status t s.waiting 0 r l₁ n d 0 o q₁ e l' d' o' q' → Anew status f s l d o q e l' d' o' q'
            joins_queue {e} {l'} {d'} {o'} {q'} c =
                let c' : Carries status (turn_of s) s.waiting 0 r l₁ n d 0 o q₁ e l' d' o' q' =
                subst (λ (y : Turn). Carries status y s.waiting 0 r l₁ n d 0 o q₁ e l' d' o' q') pre.turn c in
                let b : Bytes = packed frame_body (frames_of e.session.queue q') in
                let m : later f S ≡ queue_end S + length f.body =
                rw (new, le-ltb s.policy.messages (length fs + 1) room', le-ltb s.policy.bytes (total frame_size fs + length f.body) short') in
                record {
                  end = c'.end;
                  does = λ us.
                      c'.does us (receive_new status f S then request) (books l 0 d 0) (fresh-books l d)
                      (then_goes us (receive_new status f S) request (books l 0 d 0) (books l 0 d 0) T (fresh-books l d) (came us) ∙ asked-final us T d 0 li);
                  stores =
                      record {
                        exact = c'.stores.exact;
                        outbound = c'.stores.outbound;
                        queue =
                            c'.stores.queue
                            ∙ ap (λ (k : ℕ). repacked k b q₁) more_end
                            ∙ grown_then (end_q s.queue) (packed frame_body (put frame_number f fs)) b q q₁ (omega (arith, grown, ended)) h.bytes
                            ∙ ap (λ (k : ℕ). repacked k b q) (grown ∙ sym (reach-is (queue_end S + length f.body) m));
                      };
                }
