-- How a call that delivers ends, in place. Assumes nothing.
use Prim.Native.Nat.{ℕ, ◌+◌, ◌*◌, ◌≤◌}
use mathlib.Core.Path.{◌≡◌, refl, sym, ap, ◌∙◌, subst}
use mathlib.Core.Bool.{true}
use mathlib.Core.List.{List, [], ◌∷◌}
use native.Mathlib.Omega.{arith}
use lib.Ieee.{Float}
use lib.ListN.{length, drop}
use Rattle.stores.specs.Placed.{placed}
use Rattle.rules.specs.declared.HostStatus.{HostStatus}
use Rattle.rules.specs.declared.Refusal.{Refusal}
use Rattle.rules.specs.Answers.{refusal_number}
use Rattle.rules.specs.Lists.{Bytes}
use Rattle.std.specs.Prelude.{None, Some}
use Rattle.events.specs.Written.{books}
use Rattle.numbers.specs.declared.Numbers.{Numbers}
use Rattle.numbers.specs.Seats.{ExactNumbers}
use Rattle.queue.specs.declared.Queue.{Queue}
use Rattle.queue.specs.View.{frames_of, ExactQueue, Repacked}
use Rattle.peer_session.specs.declared.SessionState.{SessionState}
use Rattle.peer_session.specs.Breaks.{failed_in}
use Rattle.peer_session.specs.View.{Exact}
use Rattle.peer_session.proofs.Breaks.{breaks}
use Rattle.delivery.specs.declared.Turn.{Turn}
use Rattle.delivery.specs.Turns.{Draining}
use Rattle.draining.specs.declared.Ended.{Ended}
use Rattle.draining.specs.Turns.{Settling, Finishing, Finishes}
use Rattle.draining.specs.Ends.{Fails, Abandoning, Abandons, Carrying, Carries}
use Rattle.draining.proofs.Settled.{finished}
use Rattle.draining.proofs.Failing as F
use Rattle.draining.proofs.Carried as C
use Rattle.parts.specs.Codes.{good_codes}
use Rattle.parts.specs.Parts.{parts, at, outbox_in, queue_in, waiting_in, codes_in, reject_in, opened_of}
use Rattle.link_queue.specs.Steps.{Requeued}
use Rattle.link_draining.specs.Steps.{AdvancesIn, failed_bytes, Failing}
use Rattle.link_delivery.specs.Drains.{DrainsIn}
use Rattle.link_delivery.specs.declared.DrainEnd.{DrainEnd}
use Rattle.link_draining.proofs.Sessions.{requeued, with_waiting, rewaited, with_failed, marked}

-- ---- what is asked of the outbox, of the parts

pub settling_in : {t : Turn} (w h b : List ℕ) (c : Float) {n : ℕ} → Settling t (opened_of (parts w h b c)).reject (opened_of (parts w h b c)).outbox n
    → Settling t (reject_in w b) (outbox_in w h b) n
unfolding opened_of
settling_in w h b c s = s

-- ---- frames taken from the front

module _ {t : Turn} {w h b : List ℕ} {c : Float} {o : Bytes} {w₁ h₁ b₁ : List ℕ} {c₁ : Float} {o' : Bytes}
    (a : AdvancesIn t (parts w h b c) o (parts w₁ h₁ b₁ c₁) o') where
  same_queue : queue_in w₁ h₁ b₁ ≡ (opened_of (parts w h b c)).queue
  unfolding opened_of
  same_queue = F.advances-queue a.advances

  pub droppable : {taken n m : ℕ} → Finishing t taken (opened_of (parts w h b c)) n m → (taken ≤ at w₁ 4) × ExactQueue (queue_in w₁ h₁ b₁) m
  droppable {taken} {n} {m} f =
      (subst (λ (x : Queue). taken ≤ x.count) (sym same_queue) f.within, subst (λ (x : Queue). ExactQueue x m) (sym same_queue) f.exact)

  pub finishes_in : {taken : ℕ} {q : Bytes} → length w₁ ≡ 1296 → length b₁ ≡ 4936 → {w₂ h₂ b₂ : List ℕ} {q' : Bytes}
      → Requeued (drop taken (frames_of (queue_in w₁ h₁ b₁) q)) w₁ h₁ b₁ q w₂ h₂ b₂ q'
      → Finishes t (waiting_in w) taken (opened_of (parts w h b c)) o q (opened_of (parts w₂ h₂ b₂ c₁)) o' q'
  finishes_in {taken} {q} lw lb {w₂} {h₂} {b₂} {q'} r =
      subst (λ (z : SessionState). Finishes t (waiting_in w) taken (opened_of (parts w h b c)) o q z o' q')
      (sym (requeued w₁ h₁ b₁ c₁ (omega arith) (omega arith) r.only))
      (finished a.advances (subst (λ (x : Queue). Repacked x q (drop taken (frames_of x q)) (queue_in w₂ h₂ b₂) q') same_queue r.repacked))

  -- ---- a refusal after a turn

  pub failing_in : {n listed outbound queue : ℕ} → Abandoning t (waiting_in w) (opened_of (parts w h b c)) n listed outbound queue → Failing w₁ h₁ b₁ n listed queue
  failing_in {queue = m} p =
      record { queued = subst (λ (x : Queue). ExactQueue x m) (sym same_queue) p.exact.queued; room = p.room; codes = a.codes }

-- ---- a refusal that empties the queue

module _ (x : Refusal) (w h b : List ℕ) (c : Float) (l : List ℕ) (n : ℕ) (q : Bytes) (lw : length w ≡ 1296) (lb : length b ≡ 4936)
    (good : good_codes (codes_in h b) ≡ true) where
  pub fails_in : {w' b' : List ℕ} {q' : Bytes} → Requeued [] w h b q w' h b q' → b' ≡ failed_bytes b → (m : ℕ) → m ≡ refusal_number x → {l' : List ℕ}
      → l' ≡ placed l (4 * n) (7 ∷ m ∷ 0 ∷ 0 ∷ [])
      → Fails x (opened_of (parts w h b c)) l n q (record { session = opened_of (parts w' h b' c); events = n + 1; stop = Some x }) l' q'
  unfolding opened_of
  fails_in {w'} {b'} {q'} r eb m em {l'} el =
      let s : SessionState = opened_of (parts w h b c) in
      subst (λ (z : SessionState). Fails x (opened_of (parts w h b c)) l n q (record { session = z; events = n + 1; stop = Some x }) l' q')
      (sym
      (ap (λ (v : List ℕ). opened_of (parts w' h v c)) eb
      ∙ marked w' h b c (omega arith) good
      ∙ ap (λ (z : SessionState). with_failed (failed_in z.stage.mode z.stage.failed) z) (requeued w h b c (omega arith) (omega arith) r.only)))
      (F.fails x s l n q _ m l' q' (breaks s q (queue_in w' h b) q' (failed_in s.stage.mode s.stage.failed) r.repacked refl) em el)

-- ---- the acks that wait are in place: the session after the drain is the one before it with others

module _ (t : Turn) (v : Numbers) (s : SessionState) (u : Numbers) where
  finishing_same : {taken n m : ℕ} → Finishing t taken s n m → Finishing t taken (with_waiting u s) n m
  finishing_same f = record { settling = f.settling; within = f.within; exact = f.exact }

  finishes_same : {taken : ℕ} {o q : Bytes} {r : SessionState} {o' q' : Bytes} → Finishes t v taken (with_waiting u s) o q r o' q' → Finishes t v taken s o q r o' q'
  finishes_same f = record { is = f.is; settles = f.settles; left = f.left }

  exact_same : {n m : ℕ} → ExactNumbers u → Exact s n m → Exact (with_waiting u s) n m
  exact_same k e =
      record {
        outbox = e.outbox;
        queued = e.queued;
        rest = record { waiting = k; retry = e.rest.retry; handoff = e.rest.handoff; handed = e.rest.handed; reject = e.rest.reject; rejects = e.rest.rejects };
      }

  abandoning_same : {n listed outbound queue : ℕ} → ExactNumbers u → Abandoning t v s n listed outbound queue → Abandoning t v (with_waiting u s) n listed outbound queue
  abandoning_same k a = record { settling = a.settling; exact = exact_same k a.exact; waits = a.waits; room = a.room }

  abandons_same : {x : Refusal} {l : List ℕ} {n : ℕ} {o q : Bytes} {r : Ended} {l' : List ℕ} {o' q' : Bytes}
      → Abandons x t v (with_waiting u s) l n o q r l' o' q' → Abandons x t v s l n o q r l' o' q'
  abandons_same a =
      record { does = a.does; stores = record { exact = a.stores.exact; outbound = a.stores.outbound; queue = a.stores.queue } }

-- ---- the drain, and the end of a call

module _ {t : Turn} {from : ℕ} (w h b : List ℕ) (c : Float) {l : List ℕ} {n : ℕ} {d : Bytes} {at' : ℕ} {o q : Bytes}
    (pre : Carrying t (waiting_in w) from (opened_of (parts w h b c)) l n d at' o q) where
  pub draining_in : Draining t (waiting_in w) (queue_in w h b) from q (books l n d at')
  unfolding opened_of
  draining_in = C.draining pre

  module _ (lw : length w ≡ 1296) (lb : length b ≡ 4936) {status : HostStatus} {r : DrainEnd} {w₁ l₁ : List ℕ} {d₁ : Bytes}
      (k : DrainsIn status t from w h b q (books l n d at') r w₁ l₁ d₁) where
    others : opened_of (parts w₁ h b c) ≡ with_waiting (waiting_in w₁) (opened_of (parts w h b c))
    others = rewaited w h b c (omega arith) (omega arith) k.only

    pub finishing_in : Finishing r.step.turn r.taken (opened_of (parts w₁ h b c)) (length o) (length q)
    unfolding opened_of
    finishing_in =
        subst (λ (z : SessionState). Finishing r.step.turn r.taken z (length o) (length q)) (sym others)
        (finishing_same r.step.turn (waiting_in w₁) (opened_of (parts w h b c)) (waiting_in w₁) (C.finishing pre k.drains))

    pub abandoning_in : length l₁ ≡ length l → Abandoning r.step.turn (waiting_in w₁) (opened_of (parts w₁ h b c)) r.step.events (length l₁) (length o) (length q)
    unfolding opened_of
    abandoning_in e =
        subst (λ (z : SessionState). Abandoning r.step.turn (waiting_in w₁) z r.step.events (length l₁) (length o) (length q)) (sym others)
        (abandoning_same r.step.turn (waiting_in w₁) (opened_of (parts w h b c)) (waiting_in w₁) k.drains.waits (C.abandoning pre k.drains e))

    pub carries_on_in : r.stop ≡ None → {r₂ : SessionState} {o' q' : Bytes}
        → Finishes r.step.turn (waiting_in w₁) r.taken (opened_of (parts w₁ h b c)) o q r₂ o' q'
        → Carries status t (waiting_in w) from (opened_of (parts w h b c)) l n d at' o q (record { session = r₂; events = r.step.events; stop = None }) l₁ d₁ o' q'
    unfolding opened_of
    carries_on_in z {r₂} {o'} {q'} f =
        C.carries-on pre k.drains z
        (finishes_same r.step.turn (waiting_in w₁) (opened_of (parts w h b c)) (waiting_in w₁) (subst (λ (y : SessionState). Finishes r.step.turn (waiting_in w₁) r.taken y o q r₂ o' q') others f))

    pub carries_not_in : (x : Refusal) → r.stop ≡ Some x → {e : Ended} {l' : List ℕ} {o' q' : Bytes}
        → Abandons x r.step.turn (waiting_in w₁) (opened_of (parts w₁ h b c)) l₁ r.step.events o q e l' o' q'
        → Carries status t (waiting_in w) from (opened_of (parts w h b c)) l n d at' o q e l' d₁ o' q'
    unfolding opened_of
    carries_not_in x z {e} {l'} {o'} {q'} a =
        C.carries_not pre k.drains x z
        (abandons_same r.step.turn (waiting_in w₁) (opened_of (parts w h b c)) (waiting_in w₁) (subst (λ (y : SessionState). Abandons x r.step.turn (waiting_in w₁) y l₁ r.step.events o q e l' o' q') others a))
