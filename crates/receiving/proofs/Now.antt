-- Data that is delivered now. Assumes nothing.
use mathlib.Core.Path.{◌≡◌, sym, ap, ◌∙◌, subst}
use mathlib.Core.Bool.{true}
use mathlib.Core.List.{List, [], ◌∷◌}
use Prim.Native.Nat.{ℕ, ◌≤◌}
use native.Mathlib.Omega.{arith}
use lib.ListN.{length, drop}
use lib.Dec.{leb}
use borrow.Author.Tests.{leb-true}
use Rattle.rules.specs.declared.HostStatus.{HostStatus}
use Rattle.rules.specs.declared.Refusal.{Refusal}
use Rattle.rules.specs.Lists.{Bytes, kept, put, itself}
use Rattle.rules.specs.State as R
use Rattle.rules.specs.State.{Frame, State}
use Rattle.rules.specs.Progress.{Progress, ◌then◌, request}
use Rattle.rules.specs.Start.{good_policy, good_reject}
use Rattle.rules.specs.Receiving.{other_than, deliver, drain, receive_new}
use Rattle.rules.specs.Sound.{sound_fixed}
use Rattle.rules.proofs.Lists.{every_true}
use Rattle.rules.proofs.Progress.{Leaves}
use Rattle.rules.proofs.Sound.{Sound, sound-parts, parts-sound, room_for, receive-new-sound}
use Rattle.std.specs.Prelude.{None, Some, Ok, Err}
use Rattle.events.specs.Written.{Listed, asked, books, final, ends}
use Rattle.events.proofs.Laws.{then_goes, then_stops}
use Rattle.numbers.specs.declared.Numbers.{Numbers}
use Rattle.numbers.specs.Seats.{in_use, Holds}
use Rattle.queue.specs.View.{end_q, frames_of}
use Rattle.queue.specs.Steps.{Leads}
use Rattle.queue.proofs.View.{frames-total, above-is}
use Rattle.peer_session.specs.declared.SessionState.{SessionState}
use Rattle.peer_session.specs.View.{state_of}
use Rattle.delivery.specs.declared.Turn.{Turn}
use Rattle.delivery.specs.declared.Step.{Step}
use Rattle.delivery.specs.Turns.{during, Under, Ready, Delivered}
use Rattle.delivery.proofs.Written.{few-asked}
use Rattle.draining.specs.declared.Ended.{Ended}
use Rattle.draining.specs.Ends.{Stores, Abandoning, Abandons, Carrying, Carries}
use Rattle.receiving.specs.Checks.{anew, reach_new, Receiving, Taking, Anew}
use Rattle.draining.proofs.Settled.{begins}
use Rattle.draining.proofs.Failing.{leaves-final}
use Rattle.draining.proofs.Carried.{settling}
use Rattle.draining.proofs.Failing.{fresh-books}
use Rattle.receiving.proofs.Again.{asked-final}
use Rattle.receiving.proofs.Choice.{chosen, new_delivers, chosen_left, reach_now, frame-sound}

-- ---- what a sound state has room for

pub record Limits (s : State) : Type 0 where
  pub messages : s.fixed.policy.messages ≤ 256
  pub bytes : s.fixed.policy.bytes ≤ 32768
  pub body : s.fixed.policy.body ≤ 16384

pub limits : (s : State) → Sound s → Limits s
unfolding sound_fixed
limits s h =
    let p = every_true (good_policy s.fixed.policy ∷ good_reject s.fixed.reject ∷ []) h.3 in
    let k = every_true (leb s.fixed.policy.messages 256 ∷ leb s.fixed.policy.bytes 32768 ∷ leb s.fixed.policy.body 16384 ∷ []) p.0 in
    record { messages = leb-true _ _ k.0; bytes = leb-true _ _ k.1.0; body = leb-true _ _ k.1.1.0 }

module _ {f : Frame} {s : SessionState} {l : List ℕ} {d o q : Bytes} (pre : Receiving f s l d o q) where
  pub good : Sound (state_of s o q)
  good = sound-parts (state_of s o q) pre.good

  pub new-sound : (status : HostStatus) → Leaves Sound (receive_new status f (state_of s o q))
  new-sound status =
      receive-new-sound status f (state_of s o q) good pre.frame.new (frame-sound f (state_of s o q) pre.frame)
      (room_for f.number (state_of s o q) good.1 pre.frame.new pre.frame.room)

  pub body-short : length f.body ≤ 16384
  body-short = omega (arith, pre.frame.short, (limits (state_of s o q) good).body)

  pub stored-end : {r : SessionState} {o' q' : Bytes} {k : ℕ} → k ≡ end_q s.queue → Stores s (end_q s.queue) o q r o' q' → Stores s k o q r o' q'
  stored-end {r} {o'} {q'} e h = subst (λ (k : ℕ). Stores s k o q r o' q') (sym e) h

-- ---- the delivery

module _ {status : HostStatus} {t : Turn} {f : Frame} {s : SessionState} {l : List ℕ} {d o q : Bytes} (pre : Taking true status t f s l d o q) where
  abbrev S : State
  S = state_of s o q

  abbrev gs : List Frame
  gs = chosen status f S

  pub ready : Ready t (length f.body) (length l) 0 (length d) 0
  ready =
      let g : t.clock.generation ≡ s.clock.generation = ap (λ (z : Turn). z.clock.generation) pre.turn in
      record {
        slow = omega (arith, pre.receiving.low);
        room = omega (arith, pre.receiving.listed);
        bytes = omega (arith, body-short pre.receiving, pre.receiving.room);
      }

  reach-is : reach_new status f S ≡ end_q s.queue
  reach-is = reach_now status f S pre.is ∙ frames-total s.queue q pre.receiving.exact.queued

  -- ---- refused

  module _ {x : Refusal} {l₁ : List ℕ} {d₁ : Bytes} (h : Delivered f t (books l 0 d 0) (Err x) l₁ d₁) where
    stays : Under S t
    stays = subst (λ (z : Turn). Under S z) (sym pre.turn) (begins s o q pre.receiving.exact)

    stopped : (us : List R.Unacked) → final us (receive_new status f S) (books l 0 d 0) ≡ ends (Some x) (during S gs (in_use s.waiting) t) (books l₁ 0 d₁ 0)
    stopped us =
        ap (λ (p : Progress). final us p (books l 0 d 0)) (new_delivers status f S pre.is)
        ∙ ap (λ (z : Turn). final us (deliver f (during S gs (in_use s.waiting) z)) (books l 0 d 0)) (sym pre.turn)
        ∙ h.does S gs (in_use s.waiting) us stays

    pub now_abandoning : length l₁ ≡ length l → Abandoning t s.waiting s 0 (length l₁) (length o) (length q)
    now_abandoning e =
        record {
          settling =
              settling s o q t gs (in_use s.waiting) pre.receiving.exact stays
              (leaves-final [] Sound (receive_new status f S) (books l 0 d 0) (books l₁ 0 d₁ 0) (Some x) _ (new-sound pre.receiving status) (stopped []));
          exact = pre.receiving.exact;
          waits = pre.receiving.exact.rest.waiting;
          room = omega (arith, pre.receiving.listed);
        }

    pub now_refused : {e : Ended} {l' : List ℕ} {o' q' : Bytes} → Abandons x t s.waiting s l₁ 0 o q e l' o' q' → Anew status f s l d o q e l' d₁ o' q'
    now_refused b =
        record {
          end = 0;
          does = λ us.
              b.does us (anew status f S) (books l 0 d 0) gs d₁ 0 (fresh-books l d)
              (then_stops us (receive_new status f S then request) (drain status) (books l 0 d 0) (books l₁ 0 d₁ 0) x (during S gs (in_use s.waiting) t)
              (then_stops us (receive_new status f S) request (books l 0 d 0) (books l₁ 0 d₁ 0) x (during S gs (in_use s.waiting) t) (stopped us)));
          stores = stored-end pre.receiving reach-is b.stores;
        }

  -- ---- taken

  module _ {a : Step} {l₁ : List ℕ} {d₁ : Bytes} (h : Delivered f t (books l 0 d 0) (Ok a) l₁ d₁) where
    under : Under S a.turn
    under = h.under S (subst (λ (z : Turn). Under S z) (sym pre.turn) (begins s o q pre.receiving.exact))

    came : (us : List R.Unacked) → final us (receive_new status f S) (books l 0 d 0)
        ≡ ends None (during S (kept (other_than f.number) gs) (put itself f.number (in_use s.waiting)) a.turn) (books l₁ a.events d₁ a.at)
    came us =
        ap (λ (p : Progress). final us p (books l 0 d 0)) (new_delivers status f S pre.is)
        ∙ (subst (λ (z : Turn). Delivered f z (books l 0 d 0) (Ok a) l₁ d₁) pre.turn h).does S gs (in_use s.waiting) us (begins s o q pre.receiving.exact)

    after : Sound (during S (kept (other_than f.number) gs) (put itself f.number (in_use s.waiting)) a.turn)
    after = leaves-final [] Sound (receive_new status f S) (books l 0 d 0) (books l₁ a.events d₁ a.at) None _ (new-sound pre.receiving status) (came [])

    pub put-fits : (s.waiting.count ≤ 512) × (length (put itself f.number (in_use s.waiting)) ≤ 512)
    put-fits = (pre.receiving.exact.rest.waiting.few, omega (arith, after.1.room))

    module _ {acks : Numbers} (p : Holds (put itself f.number (in_use s.waiting)) acks) {k : ℕ} (ld : Leads f.number s.queue k) where
      abbrev there : State
      there = during S (drop k (frames_of s.queue q)) (in_use acks) a.turn

      left_is : kept (other_than f.number) gs ≡ drop k (frames_of s.queue q)
      left_is =
          chosen_left status f S pre.receiving.frame.new (good pre.receiving).1.order
          ∙ above-is s.remote f.number s.queue q k (good pre.receiving).1.order ld

      there-is : during S (kept (other_than f.number) gs) (put itself f.number (in_use s.waiting)) a.turn ≡ there
      there-is =
          ap (λ (fs : List Frame). during S fs (put itself f.number (in_use s.waiting)) a.turn) left_is
          ∙ ap (λ (ws : List ℕ). during S (drop k (frames_of s.queue q)) ws a.turn) (sym p.held)

      module _ {l₂ : List ℕ} {n : ℕ} (li : Listed (asked a.turn.clock) l₁ a.events l₂ n) where
        pub now_carrying : length l₂ ≡ length l → length d₁ ≡ length d → Carrying a.turn acks k s l₂ n d₁ a.at o q
        now_carrying e₁ e₂ =
            let g : t.clock.generation ≡ s.clock.generation = ap (λ (y : Turn). y.clock.generation) pre.turn in
            record {
              exact = pre.receiving.exact;
              under = under;
              good = parts-sound there (subst Sound there-is after);
              frames = (good pre.receiving).1.frames;
              waits = p.exact;
              within = ld.within;
              slow = omega (arith, h.slow, pre.receiving.low);
              few = omega (arith, h.few, few-asked a.turn.clock (books l₁ a.events d₁ a.at) l₂ n li);
              short = omega (arith, h.short, body-short pre.receiving);
              listed = omega (arith, pre.receiving.listed);
              room = omega (arith, pre.receiving.room);
            }

        pub now_taken : {e : Ended} {l' : List ℕ} {d' o' q' : Bytes} → Carries status a.turn acks k s l₂ n d₁ a.at o q e l' d' o' q' → Anew status f s l d o q e l' d' o' q'
        now_taken c =
            record {
              end = c.end;
              does = λ us.
                  c.does us (receive_new status f S then request) (books l 0 d 0) (fresh-books l d)
                  (then_goes us (receive_new status f S) request (books l 0 d 0) (books l₁ a.events d₁ a.at) there (fresh-books l d)
                  (came us ∙ ap (λ (y : State). ends None y (books l₁ a.events d₁ a.at)) there-is)
                  ∙ asked-final us there d₁ a.at li);
              stores = stored-end pre.receiving reach-is c.stores;
            }
