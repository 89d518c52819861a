-- The steps of data in place, from those of the driver's call. Assumes nothing.
use mathlib.Core.Path.{◌≡◌, sym, ap, ◌∙◌, subst}
use mathlib.Core.Bool.{Bool, true, false}
use mathlib.Core.List.{List, [], ◌∷◌}
use Prim.Native.Nat.{ℕ, ◌+◌, ◌*◌, ◌≤◌, ◌<◌}
use native.Mathlib.Omega.{arith}
use lib.Ieee.{Float}
use lib.ListN.{length}
use Rattle.stores.specs.Placed.{placed}
use Rattle.rules.specs.declared.Clock.{Clock}
use Rattle.rules.specs.declared.HostStatus.{HostStatus}
use Rattle.rules.specs.declared.Refusal.{Refusal}
use Rattle.rules.specs.declared.Refusal.TheVariants.{QueueCount, QueueBytes}
use Rattle.rules.specs.Lists.{Bytes, any, put, itself}
use Rattle.rules.specs.State.{Frame, frame_number, is_frame}
use Rattle.std.specs.Prelude.{None, Ok, Err}
use Rattle.parts.specs.Codes.{good_codes}
use Rattle.events.specs.Written.{Listed, asked, books}
use Rattle.numbers.specs.declared.Numbers.{Numbers}
use Rattle.numbers.specs.Seats.{in_use, ExactNumbers}
use Rattle.queue.specs.View.{end_q, frames_of, ExactQueue}
use Rattle.queue.specs.Steps.{Leads}
use Rattle.peer_session.specs.declared.SessionState.{SessionState}
use Rattle.peer_session.specs.View.{Exact}
use Rattle.delivery.specs.declared.Turn.{Turn}
use Rattle.delivery.specs.declared.Step.{Step}
use Rattle.delivery.specs.Turns.{Delivered}
use Rattle.draining.specs.declared.Ended.{Ended}
use Rattle.draining.specs.Turns.{turn_of, with_queue}
use Rattle.draining.specs.Ends.{Fails, Abandoning, Abandons, Carrying, Carries}
use Rattle.receiving.specs.Checks.{Acknowledges, Acknowledging, Anew, Delivers}
use Rattle.receiving.proofs.Next.{taking}
use Rattle.receiving.proofs.Again.{answers-again, waits-again}
use Rattle.receiving.proofs.Now.{good, now_abandoning, now_refused, put-fits, now_carrying, now_taken}
use Rattle.receiving.proofs.Later.{body-fits, kept_carrying, kept-queued, queue-many, queue_long, enters, joins_carrying, joins_queue}
use Rattle.parts.specs.Parts.{parts, at, queue_in, waiting_in, clock_in, codes_in, opened_of}
use Rattle.parts.proofs.Fields.{codes_same}
use Rattle.link_numbers.specs.Sets.{Rising, Becomes}
use Rattle.link_queue.specs.Steps.{bodies, Summing, Topped, Entering, Requeued}
use Rattle.link_queue.proofs.Sums.{end-bodies}
use Rattle.link_queue.proofs.Tops.{topped}
use Rattle.link_sound.proofs.Parts.{usable}
use Rattle.link_draining.specs.Steps.{Failing}
use Rattle.link_arrivals.specs.Steps.{Receiving, Taking}
use Rattle.link_draining.proofs.Sessions.{with_waiting, rewaited, requeued}

-- ---- a duplicate

module _ (n : ℕ) (w h b : List ℕ) (t : Float) (l : List ℕ) where
  abbrev S : SessionState
  S = opened_of (parts w h b t)

  abbrev clocked : Clock → List ℕ → ℕ → List ℕ → ℕ → Type 0
  clocked c l₁ k l' m = Listed (asked c) l₁ k l' m

  pub answers : {c : Clock} {l₁ l' : List ℕ} {k : ℕ} → c ≡ clock_in h t → n ≤ at w 3 → l₁ ≡ placed l (4 * 0) (10 ∷ n ∷ 0 ∷ 0 ∷ []) → Listed (asked c) l₁ 1 l' k
      → Acknowledges n S l (record { session = S; events = k; stop = None }) l'
  unfolding opened_of
  answers {c} {l₁} {l'} {k} ck x e li = answers-again n S l l₁ l' k x e (subst (λ (z : Clock). clocked z l₁ 1 l' k) ck li)

  pub waits : 1296 ≤ length w → 4936 ≤ length b → {w' : List ℕ} → Becomes (put itself n (in_use (waiting_in w))) 272 5 w w' → {c : Clock} {l' : List ℕ} {k : ℕ} → c ≡ clock_in h t → at w 3 < n
      → Listed (asked c) l 0 l' k → Acknowledges n S l (record { session = opened_of (parts w' h b t); events = k; stop = None }) l'
  unfolding opened_of
  waits lw lb {w'} p {c} {l'} {k} ck x li =
      subst (λ (z : SessionState). Acknowledges n S l (record { session = z; events = k; stop = None }) l') (sym (rewaited w h b t lw lb p.only))
      (waits-again n S l (waiting_in w') l' k x p.holds (subst (λ (z : Clock). clocked z l 0 l' k) ck li))

  pub fits : Acknowledging n S (length l) → at w 3 < n → length (put itself n (in_use (waiting_in w))) ≤ 512
  unfolding opened_of
  fits a x = a.room x

-- ---- other acks that wait make no difference to what is carried on with

exact_rewaited : {v : Numbers} {s : SessionState} {a b : ℕ} → ExactNumbers v → Exact s a b → Exact (with_waiting v s) a b
exact_rewaited x e =
    record {
      outbox = e.outbox;
      queued = e.queued;
      rest = record { waiting = x; retry = e.rest.retry; handoff = e.rest.handoff; handed = e.rest.handed; reject = e.rest.reject; rejects = e.rest.rejects };
    }

module _ {t : Turn} {v : Numbers} {k : ℕ} {s : SessionState} {l : List ℕ} {n : ℕ} {d : Bytes} {at₀ : ℕ} {o q : Bytes} where
  pub carrying_rewaited : {s₁ : SessionState} → s₁ ≡ with_waiting v s → Carrying t v k s l n d at₀ o q → Carrying t v k s₁ l n d at₀ o q
  carrying_rewaited e c =
      subst (λ (z : SessionState). Carrying t v k z l n d at₀ o q) (sym e)
      (record {
        exact = exact_rewaited c.waits c.exact;
        under =
            record {
              mode = c.under.mode;
              failed = c.under.failed;
              next = c.under.next;
              unacked = c.under.unacked;
              alone = c.under.alone;
              inbound = c.under.inbound;
              reject = c.under.reject;
            };
        good = c.good;
        frames = c.frames;
        waits = c.waits;
        within = c.within;
        slow = c.slow;
        few = c.few;
        short = c.short;
        listed = c.listed;
        room = c.room;
      })

  pub carries_rewaited : {status : HostStatus} {s₁ : SessionState} → s₁ ≡ with_waiting v s → {r : Ended} {l' : List ℕ} {d' o' q' : Bytes} → Carries status t v k s₁ l n d at₀ o q r l' d' o' q'
      → Carries status t v k s l n d at₀ o q r l' d' o' q'
  carries_rewaited {status} e {r} {l'} {d'} {o'} {q'} c₁ =
      let c : Carries status t v k (with_waiting v s) l n d at₀ o q r l' d' o' q' = subst (λ (z : SessionState). Carries status t v k z l n d at₀ o q r l' d' o' q') e c₁ in
      record {
        end = c.end;
        does = c.does;
        stores = record { exact = c.stores.exact; outbound = c.stores.outbound; queue = c.stores.queue };
      }

-- ---- data that is delivered now

module _ {status : HostStatus} {u : Turn} {f : Frame} (w h b : List ℕ) (t : Float) {l : List ℕ} {d o q : Bytes} (pre : Taking true status u f w h b t l d o q) where
  abbrev S₁ : SessionState
  S₁ = opened_of (parts w h b t)

  good_now : good_codes (codes_in h b) ≡ true
  good_now = (usable w h b t pre.checked).codes

  pub few_now : at w 4 ≤ 256
  unfolding opened_of
  few_now = pre.taking.receiving.exact.queued.few

  module _ {x : Refusal} {l₁ : List ℕ} {d₁ : Bytes} (g : Delivered f u (books l 0 d 0) (Err x) l₁ d₁) where
    pub abandoning : length l₁ ≡ length l → Abandoning u (waiting_in w) S₁ 0 (length l₁) (length o) (length q) × (good_codes (codes_in h b) ≡ true)
    unfolding opened_of
    abandoning e = (now_abandoning pre.taking g e, good_now)

    pub refused : {r : Ended} {l' : List ℕ} {o' q' : Bytes} → Abandons x u (waiting_in w) S₁ l₁ 0 o q r l' o' q' → Anew status f S₁ l d o q r l' d₁ o' q'
    unfolding opened_of
    refused c = now_refused pre.taking g c

  module _ {a : Step} {l₁ : List ℕ} {d₁ : Bytes} (g : Delivered f u (books l 0 d 0) (Ok a) l₁ d₁) where
    pub may_put : Rising 272 5 w × (length (put itself f.number (in_use (waiting_in w))) ≤ 512)
    unfolding opened_of
    may_put = ((usable w h b t pre.checked).waiting, (put-fits pre.taking g).1)

    module _ (lw : 1296 ≤ length w) (lb : 4936 ≤ length b) {w₁ : List ℕ} (p : Becomes (put itself f.number (in_use (waiting_in w))) 272 5 w w₁)
        {k : ℕ} (ld : (h' b' : List ℕ) → Leads f.number (queue_in w h' b') k) {l₂ : List ℕ} {n : ℕ} (li : Listed (asked a.turn.clock) l₁ a.events l₂ n) where
      pub carrying : length l₂ ≡ length l → length d₁ ≡ length d
          → Carrying a.turn (waiting_in w₁) k (opened_of (parts w₁ h b t)) l₂ n d₁ a.at o q × (good_codes (codes_in h b) ≡ true)
      unfolding opened_of
      carrying e₁ e₂ =
          (carrying_rewaited (rewaited w h b t lw lb p.only) (now_carrying pre.taking g p.holds (ld h b) li e₁ e₂), good_now)

      pub taken : {r : Ended} {l' : List ℕ} {d' o' q' : Bytes} → Carries status a.turn (waiting_in w₁) k (opened_of (parts w₁ h b t)) l₂ n d₁ a.at o q r l' d' o' q'
          → Anew status f S₁ l d o q r l' d' o' q'
      unfolding opened_of
      taken c = now_taken pre.taking g p.holds (ld h b) li (carries_rewaited (rewaited w h b t lw lb p.only) c)

-- ---- data that waits in the queue

module _ {status : HostStatus} {u : Turn} {f : Frame} (w h b : List ℕ) (t : Float) {l : List ℕ} {d o q : Bytes} (pre : Taking false status u f w h b t l d o q) where
  abbrev S₂ : SessionState
  S₂ = opened_of (parts w h b t)

  good-later : good_codes (codes_in h b) ≡ true
  good-later = (usable w h b t pre.checked).codes

  pub few-later : at w 4 ≤ 256
  unfolding opened_of
  few-later = pre.taking.receiving.exact.queued.few

  pub listed-later : 4096 ≤ length l
  listed-later = pre.taking.receiving.listed

  exact-later : ExactQueue (queue_in w h b) (length q)
  unfolding opened_of
  exact-later = pre.taking.receiving.exact.queued

  pub topped-later : Topped w
  unfolding opened_of
  topped-later = topped w h b q exact-later (at w 2) (good pre.taking.receiving).1.order

  pub sums : Summing h (at w 4)
  sums = record { few = few-later; small = omega (arith, exact-later.small, end-bodies w h b few-later) }

  pub body-short : length f.body ≤ 16384
  body-short = body-fits pre.taking

  pub may_fail : Failing w h b 0 (length l) (length q)
  may_fail = record { queued = exact-later; room = omega (arith, listed-later); codes = good-later }

  module _ {c : Clock} (ck : c ≡ clock_in h t) where
    module _ {l₁ : List ℕ} {n : ℕ} (li : Listed (asked c) l 0 l₁ n) where
      listed_at : Listed (asked (clock_in h t)) l 0 l₁ n
      listed_at = subst (λ (z : Clock). Listed (asked z) l 0 l₁ n) ck li

      pub carrying_kept : length l₁ ≡ length l → Carrying u (waiting_in w) 0 S₂ l₁ n d 0 o q × (good_codes (codes_in h b) ≡ true)
      unfolding opened_of
      carrying_kept e = (kept_carrying pre.taking listed_at e, good-later)

      pub queued_already : {y : Bool} → ((h' b' : List ℕ) (x : Bytes) → y ≡ any (is_frame f.number) (frames_of (queue_in w h' b') x)) → y ≡ true
          → {r : Ended} {l' : List ℕ} {d' o' q' : Bytes} → Carries status u (waiting_in w) 0 S₂ l₁ n d 0 o q r l' d' o' q' → Anew status f S₂ l d o q r l' d' o' q'
      unfolding opened_of
      queued_already is y k = kept-queued pre.taking listed_at (sym (is h b q) ∙ y) k

  module _ {y : Bool} (is : (h' b' : List ℕ) (x : Bytes) → y ≡ any (is_frame f.number) (frames_of (queue_in w h' b') x)) (new : y ≡ false) where
    pub too_many : at w 11 < at w 4 + 1 → {r : Ended} {l' : List ℕ} {q' : Bytes} → Fails QueueCount S₂ l 0 q r l' q' → Anew status f S₂ l d o q r l' d o q'
    unfolding opened_of
    too_many k a = queue-many pre.taking (sym (is h b q) ∙ new) k a

    module _ (room : at w 4 + 1 ≤ at w 11) {used : ℕ} (end : used ≡ bodies h (at w 4)) where
      ends_at : used ≡ end_q (queue_in w h b)
      ends_at = end ∙ sym (end-bodies w h b few-later)

      pub too_long : at w 12 < used + length f.body → {r : Ended} {l' : List ℕ} {q' : Bytes} → Fails QueueBytes S₂ l 0 q r l' q' → Anew status f S₂ l d o q r l' d o q'
      unfolding opened_of
      too_long k a = queue_long pre.taking (sym (is h b q) ∙ new) room (omega (arith, ends_at)) a

      module _ (short : used + length f.body ≤ at w 12) where
        short-at : end_q (queue_in w h b) + length f.body ≤ at w 12
        short-at = omega (arith, ends_at)

        pub may_insert : Entering w h b q used f.number (length f.body)
        unfolding opened_of
        may_insert = record { enters = enters pre.taking (sym (is h b q) ∙ new) room short-at; topped = topped-later; is = ends_at }

        module _ (lw : 1296 ≤ length w) (lb : 4936 ≤ length b) {w₁ h₁ b₁ : List ℕ} {q₁ : Bytes}
            (p : Requeued (put frame_number f (frames_of (queue_in w h b) q)) w h b q w₁ h₁ b₁ q₁) {c : Clock} (ck : c ≡ clock_in h t) {l₁ : List ℕ} {n : ℕ} (li : Listed (asked c) l 0 l₁ n) where
          abbrev T : SessionState
          T = opened_of (parts w₁ h₁ b₁ t)

          session : T ≡ with_queue (queue_in w₁ h₁ b₁) S₂
          session = requeued w h b t lw lb p.only

          acks : waiting_in w₁ ≡ waiting_in w
          unfolding opened_of
          acks = ap (λ (z : SessionState). z.waiting) session

          codes-kept : good_codes (codes_in h₁ b₁) ≡ true
          codes-kept =
              ap good_codes (codes_same {h = h} {h' = h₁} {b = b} {b' = b₁} (record { same = λ i x y. p.only.clock i (omega arith) }) (record { same = λ i x y. p.only.rest i (omega arith) })) ∙ good-later

          pub carrying_joined : length l₁ ≡ length l → Carrying u (waiting_in w₁) 0 T l₁ n d 0 o q₁ × (good_codes (codes_in h₁ b₁) ≡ true)
          unfolding opened_of
          carrying_joined e = (
            subst (λ (z : SessionState). Carrying u (waiting_in w₁) 0 z l₁ n d 0 o q₁) (sym session)
                (subst (λ (v : Numbers). Carrying u v 0 (with_queue (queue_in w₁ h₁ b₁) S₂) l₁ n d 0 o q₁) (sym acks)
                (joins_carrying pre.taking (sym (is h b q) ∙ new) room short-at p.repacked (listed_at ck li) e)),
            codes-kept,
          )

          pub joined : {r : Ended} {l' : List ℕ} {d' o' q' : Bytes} → Carries status u (waiting_in w₁) 0 T l₁ n d 0 o q₁ r l' d' o' q' → Anew status f S₂ l d o q r l' d' o' q'
          unfolding opened_of
          joined {r} {l'} {d'} {o'} {q'} k =
              joins_queue pre.taking (sym (is h b q) ∙ new) room short-at p.repacked (listed_at ck li)
              (subst (λ (v : Numbers). Carries status u v 0 (with_queue (queue_in w₁ h₁ b₁) S₂) l₁ n d 0 o q₁ r l' d' o' q') acks
              (subst (λ (z : SessionState). Carries status u (waiting_in w₁) 0 z l₁ n d 0 o q₁ r l' d' o' q') session k))

-- ---- data that is no duplicate

module _ {f : Frame} (w h b : List ℕ) (t : Float) {l : List ℕ} {d o q : Bytes} (pre : Receiving f w h b t l d o q) where
  pub codes : good_codes (codes_in h b) ≡ true
  codes = (usable w h b t pre.checked).codes

  module _ {u : Turn} (e : u ≡ turn_of (opened_of (parts w h b t))) where
    pub choosing : (now : Bool) (status : HostStatus) {r : Bool} → Delivers status f.number f.kind u r → r ≡ now → Taking now status u f w h b t l d o q
    choosing now status g z = record { checked = pre.checked; taking = taking now status pre.receiving e g z }
