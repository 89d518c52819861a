-- The drain, and the end of a call. Assumes nothing.
use mathlib.Core.Path.{◌≡◌, refl, sym, ap, ◌∙◌, subst}
use mathlib.Core.Bool.{Bool, true}
use mathlib.Core.List.{List, [], ◌∷◌}
use Prim.Native.Nat.{ℕ, ◌+◌, ◌≤◌}
use native.Mathlib.Omega.{arith}
use lib.ListN.{length, take, drop, length-drop, take-append-drop}
use lib.Dec.{leb}
use Rattle.rules.specs.declared.HostStatus.{HostStatus}
use Rattle.rules.specs.declared.Refusal.{Refusal}
use Rattle.rules.specs.Lists.{Bytes, all, total, packed}
use Rattle.rules.specs.State as R
use Rattle.rules.specs.State.{State, body_of, frame_body, frame_size}
use Rattle.rules.specs.Progress.{Progress, ◌then◌}
use Rattle.rules.specs.Receiving.{up_to, drain}
use Rattle.rules.specs.Sound.{sound_frame}
use Rattle.rules.specs.Buffers.{repacked}
use Rattle.rules.proofs.Lists.{and_left, and_right, and_both, total-append}
use Rattle.rules.proofs.Sound.{Sound, sound-parts, drains-sound}
use Rattle.std.specs.Prelude.{Option, None, Some}
use Rattle.events.specs.Written.{Books, books, Within, final, ends}
use Rattle.events.proofs.Laws.{then_goes}
use Rattle.numbers.specs.declared.Numbers.{Numbers}
use Rattle.numbers.specs.Seats.{in_use, ExactNumbers}
use Rattle.numbers.proofs.Laws.{exact-length}
use Rattle.outbox.proofs.View.{exact-count}
use Rattle.queue.specs.declared.Queue.{Queue}
use Rattle.queue.specs.View.{end_q, frames_of}
use Rattle.queue.proofs.View.{frames-length, frames-total}
use Rattle.peer_session.specs.declared.SessionState.{SessionState}
use Rattle.peer_session.specs.View.{view, state_of, fixed_of, ExactRest, Exact}
use Rattle.delivery.specs.declared.Turn.{Turn}
use Rattle.delivery.specs.declared.Drained.{Drained}
use Rattle.delivery.specs.Turns.{after_sending, during, Under, Draining, Drains}
use Rattle.draining.specs.declared.Ended.{Ended}
use Rattle.draining.specs.Turns.{Settling, advanced, with_queue, Finishing, Finishes}
use Rattle.draining.specs.Ends.{Stores, Abandoning, Abandons, Carrying, Carries}
use Rattle.draining.proofs.Settled.{advanced-view, advanced-rest, advanced-bytes}
use Rattle.draining.proofs.Failing.{failing-goes, leaves-final}

-- ---- what a turn asks of the outbox

pub settling : (s : SessionState) (o q : Bytes) (t : Turn) (gs : List R.Frame) (ws : List ℕ) → Exact s (length o) (length q) → Under (state_of s o q) t
    → Sound (during (state_of s o q) gs ws t) → Settling t s.reject s.outbox (length o)
settling s o q t gs ws e u h =
    record {
      exact = e.outbox;
      alone = λ z. exact-count s.outbox o e.outbox ∙ ap length (u.alone z);
      next = λ z.
          let k : after_sending true s.outbox.next ≤ 4294967296 = subst (λ (b : Bool). after_sending b s.outbox.next ≤ 4294967296) z h.0.end in
          omega arith;
      short = e.rest.rejects;
      full = e.rest.reject;
    }

-- ---- the session at the end

module _ {t : Turn} {w : Numbers} {taken : ℕ} {s : SessionState} {o q : Bytes} {r : SessionState} {o' q' : Bytes} (h : Finishes t w taken s o q r o' q') where
  finishes_view : state_of r o' q' ≡ during (state_of s o q) (drop taken (frames_of s.queue q)) (in_use w) t
  finishes_view =
      ap (λ (z : SessionState). view (frames_of r.queue q') z o') h.is
      ∙ advanced-view t w s o r.outbox o' h.settles (frames_of r.queue q') (frames_of s.queue q)
      ∙ ap (λ (fs : List R.Frame). during (state_of s o q) fs (in_use w) t) h.left.frames

  queued-rest : (x : Queue) (z : SessionState) → ExactRest z → ExactRest (with_queue x z)
  queued-rest x z e = record { waiting = e.waiting; retry = e.retry; handoff = e.handoff; handed = e.handed; reject = e.reject; rejects = e.rejects }

  finishes_stores : Exact s (length o) (length q) → ExactNumbers w → Stores s (end_q s.queue) o q r o' q'
  finishes_stores e k =
      record {
        exact =
            record {
              outbox = h.settles.repacked.exact;
              queued = h.left.exact;
              rest =
                  subst ExactRest (sym h.is)
                  (queued-rest r.queue (advanced s r.outbox w t) (advanced-rest t w s o r.outbox o' h.settles e.rest k));
            };
        outbound = advanced-bytes t w s o r.outbox o' h.settles;
        queue = h.left.bytes ∙ ap (λ (fs : List R.Frame). repacked (end_q s.queue) (packed frame_body fs) q) (sym h.left.frames);
      }

-- ---- the drain

all_up_to : (x : R.Fixed) (fs : List R.Frame) → all (sound_frame x) fs ≡ true → all (up_to 18446744073709551614) fs ≡ true
unfolding all
all_up_to x [] h = refl
all_up_to x (f ∷ fs) h =
    and_both (up_to 18446744073709551614 f) _ (and_left (leb f.number 18446744073709551614) _ (and_left (sound_frame x f) _ h))
    (all_up_to x fs (and_right (sound_frame x f) _ h))

module _ {t : Turn} {w : Numbers} {from : ℕ} {s : SessionState} {l : List ℕ} {n : ℕ} {d : Bytes} {at : ℕ} {o q : Bytes} (pre : Carrying t w from s l n d at o q) where
  abbrev here : State
  here = during (state_of s o q) (drop from (frames_of s.queue q)) (in_use w) t

  good : Sound here
  good = sound-parts here pre.good

  pub draining : Draining t w s.queue from q (books l n d at)
  draining =
      let few : s.queue.count ≤ 256 = pre.exact.queued.few in
      let small : end_q s.queue ≤ 32768 = pre.exact.queued.small in
      let fs : List R.Frame = frames_of s.queue q in
      let split : total frame_size (take from fs) + total frame_size (drop from fs) ≡ total frame_size fs =
      sym (total-append frame_size (take from fs) (drop from fs)) ∙ ap (total frame_size) (take-append-drop from fs) in
      record {
        exact = pre.exact.queued;
        waits = pre.waits;
        within = pre.within;
        order = good.1.order;
        last = all_up_to (fixed_of s) (frames_of s.queue q) pre.frames;
        acks = good.1.acks;
        behind = good.1.behind;
        many = omega (arith, good.1.room, exact-length w pre.waits, length-drop from fs, frames-length s.queue q pre.exact.queued);
        slow = omega (arith, pre.slow);
        room = omega (arith, pre.few, pre.listed);
        bytes = omega (arith, split, frames-total s.queue q pre.exact.queued, pre.short, pre.room);
      }

  module _ {status : HostStatus} {r : Drained} {l₁ : List ℕ} {d₁ : Bytes} (h : Drains status t w s.queue from q (books l n d at) r l₁ d₁) where
    abbrev there : State
    there = during (state_of s o q) (drop r.taken (frames_of s.queue q)) (in_use r.waiting) r.step.turn

    came : (us : List R.Unacked) → final us (drain status here) (books l n d at) ≡ ends r.stop there (books l₁ r.step.events d₁ r.step.at)
    came us = h.does (state_of s o q) us pre.under

    settled : Settling r.step.turn s.reject s.outbox (length o)
    settled =
        settling s o q r.step.turn (drop r.taken (frames_of s.queue q)) (in_use r.waiting) pre.exact (h.under (state_of s o q) pre.under)
        (leaves-final [] Sound (drain status here) (books l n d at) (books l₁ r.step.events d₁ r.step.at) r.stop there
        (drains-sound (length here.inbox.queue) status here good) (came []))

    pub finishing : Finishing r.step.turn r.taken s (length o) (length q)
    finishing = record { settling = settled; within = h.within; exact = pre.exact.queued }

    pub abandoning : length l₁ ≡ length l → Abandoning r.step.turn r.waiting s r.step.events (length l₁) (length o) (length q)
    abandoning e =
        let few : s.queue.count ≤ 256 = pre.exact.queued.few in
        record { settling = settled; exact = pre.exact; waits = h.waits; room = omega (arith, h.few, pre.few, pre.listed) }

    went : (us : List R.Unacked) (p : Progress) (b : Books) → Within b → final us p b ≡ ends None here (books l n d at)
        → final us (p then drain status) b ≡ ends r.stop there (books l₁ r.step.events d₁ r.step.at)
    went us p b k e = then_goes us p (drain status) b (books l n d at) here k e ∙ came us

    pub carries-on : r.stop ≡ None → {r₂ : SessionState} {o' q' : Bytes} → Finishes r.step.turn r.waiting r.taken s o q r₂ o' q'
        → Carries status t w from s l n d at o q (record { session = r₂; events = r.step.events; stop = None }) l₁ d₁ o' q'
    carries-on z {r₂} {o'} {q'} f =
        record {
          end = r.step.at;
          does = λ us p b k e.
              failing-goes us (p then drain status) b (books l₁ r.step.events d₁ r.step.at) there
              (went us p b k e ∙ ap (λ (y : Option Refusal). ends y there (books l₁ r.step.events d₁ r.step.at)) z)
              ∙ ap (λ (x : State). ends None x (books l₁ r.step.events d₁ r.step.at)) (sym (finishes_view f));
          stores = finishes_stores f pre.exact h.waits;
        }

    pub carries_not : (x : Refusal) → r.stop ≡ Some x → {e : Ended} {l' : List ℕ} {o' q' : Bytes} → Abandons x r.step.turn r.waiting s l₁ r.step.events o q e l' o' q'
        → Carries status t w from s l n d at o q e l' d₁ o' q'
    carries_not x z a =
        record {
          end = r.step.at;
          does = λ us p b k e.
              a.does us (p then drain status) b (drop r.taken (frames_of s.queue q)) d₁ r.step.at k
              (went us p b k e ∙ ap (λ (y : Option Refusal). ends y there (books l₁ r.step.events d₁ r.step.at)) z);
          stores = a.stores;
        }
