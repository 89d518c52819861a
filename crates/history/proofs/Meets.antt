-- What the contracts of the exported calls say, in the rule book's words: a start gives a new session, and a call leaves and shows what the rule book
-- says of the session that it was made on. Assumes nothing.
use Rattle.std.specs.Prelude.{if◌then◌else◌}
use mathlib.Core.Path.{◌≡◌, refl, sym, ap, ◌∙◌, subst}
use mathlib.Core.Bool.{Bool, true, false, ◌&&◌, ◌||◌, true≢false}
use mathlib.Core.List.{List, [], ◌++◌}
use mathlib.Core.Option.{Option}
use Prim.Native.Nat.{ℕ, ◌≤◌}
use native.Mathlib.Omega.{arith}
use lib.ListN.{length, drop, take-append-drop, length-replicate}
use lib.Dec.{ltb}
use borrow.Author.Tests.{ltb-false}
use Rattle.std.proofs.lemmas.Bool.{or_parts}
use Rattle.rules.specs.declared.Answer.{Answer}
use Rattle.rules.specs.declared.Answer.TheVariants.{Done, Refused}
use Rattle.rules.specs.declared.Refusal.{Refusal}
use Rattle.rules.specs.declared.Refusal.TheVariants.{ShortBuffer, UnknownCode}
use Rattle.rules.specs.Lists.{Bytes, total, packed}
use Rattle.rules.specs.State.{Handoff, State}
use Rattle.rules.specs.Start.{Reliable, Start, started, unstarted, good_record, good_policy, good_reject, new, start}
use Rattle.rules.specs.Sound.{sound}
use Rattle.rules.specs.Calls.{Call, sends, gets_data, gets_ack, gets_keepalive, is_ready, accepts, rejects, prepares_channel, commands, prepares, completes, connects, reports, fetches, retires, restores}
use Rattle.rules.specs.Buffers.{Lent, takes, taken_by, short, wrong_code, filled, outbound_end, queue_end, lent_after, new_stores}
use Rattle.rules.proofs.Lists.{if_rule}
use Rattle.rules.proofs.Sound.{sound-parts, parts-sound, step-sound}
use Rattle.peer_session.specs.View.{Held, held, encode}
use Rattle.peer_session.specs.Sound.{sound_of}
use Rattle.peer_session.proofs.View.{held-view}
use Rattle.peer_session.proofs.Lasting.{settles-sound}
use Rattle.session.specs.Promise.{Exit, exit, lent, unchanged, follows, promise}
use Rattle.session.proofs.Lengths.{long-enough, not_taken}
use Rattle.session.proofs.Promises.{promise-short, promise-code, promise-follows, lent_cong}
use Rattle.session.proofs.Entry.{Entered, entered}
use Rattle.starts.specs.Started.{messages_of, short_record, begins, start_promise}
use Rattle.starts.specs.Records.{reliable_of}
use Rattle.starts.proofs.Lasting.{starts-sound}
use Rattle.restores.specs.Restored.{handoff_given, restore_promise}
use Rattle.history.specs.Shown.{read_words}
use Rattle.history.specs.Promises.{Session, Buffers, Left, shown_by, Opening, Starts, only_answers, TakesAll, Restores, Meets}
use Rattle.history.proofs.Viewed.{Viewed, view, lent-to, Gate, passes, is-short, is_unknown, is-restore, gate_by, outcome_of, left_of, next, shown}
use Rattle.history.proofs.Turns.{Packed, Queued, packed-next, queued-next, long-next, long-queue-next}
use Rattle.history.proofs.Listed.{list_read}
use Rattle.history.proofs.Realised.{realised, realised_held, realised_full}

-- a session that calls leave, with stores as long as named
pub record Whole (x : Session) : Type 0 where
  pub sound : sound_of x.code ≡ true
  pub outbound : 65536 ≤ length x.outbound
  pub queue : 32768 ≤ length x.queue

-- ---- each contract, at the buffers that there are

abbrev Found : Session → Answer → ℕ → Lent → Exit
Found x a n l = exit (held x.code) a n l

abbrev lent-left : Left → Lent
lent-left z = lent z.list z.delivery z.session.outbound z.session.queue

module _ (l : Buffers) (x : Session) (z : Left) (e : Exit) where
  abbrev Is : Lent → Type 0
  Is m = Found z.session z.answer z.events m ≡ e

  unlent : {a : List ℕ} {d o q : Bytes} → Is (lent a d o q) → z.list ≡ a → z.delivery ≡ d → z.session.outbound ≡ o → z.session.queue ≡ q → Is (lent-left z)
  unlent h p q r s = ap (λ m. Found z.session z.answer z.events m) (lent_cong p q r s) ∙ h

  unreturned : Found x z.answer z.events (lent z.list l.delivery x.outbound x.queue) ≡ e → z.session ≡ x → z.delivery ≡ l.delivery → Is (lent-left z)
  unreturned h p q = (λ i. Found (p i) z.answer z.events (lent z.list (q i) (p i).outbound (p i).queue)) ∙ h

  answering : (a : Answer) → Found x a 0 (lent l.list l.delivery x.outbound x.queue) ≡ e → z ≡ only_answers l x a → Is (lent-left z)
  answering a h p = ap (λ (y : Left). Found y.session y.answer y.events (lent-left y)) p ∙ h

-- ---- how a call fares

module _ (l : Buffers) (x : Session) (z : Left) (w : Whole x) where
  abbrev s : State
  s = (view x).state

  abbrev at : Lent
  at = lent-to l (view x)

  abbrev Fares : Gate → Call → Type 0
  Fares v c = Found z.session z.answer z.events (lent-left z) ≡ exit (encode (outcome_of v c s).state) (outcome_of v c s).answer (length (outcome_of v c s).events) (left_of v at c s)

  within : Entered x.code x.outbound x.queue
  within = entered x.code x.outbound x.queue w.sound x.full w.outbound w.queue

  as_it_was : (r : Refusal) → unchanged r x.code at ≡ exit (encode s) (Refused r) 0 at
  as_it_was r = ap (λ (h : Held). exit h (Refused r) 0 at) within.held-is

  -- a gate, and that it is by the tests, but for a restore
  abbrev Fared : Call → Type 0
  Fared c = (v : Gate) × Fares v c × (is-restore c ≡ false → v ≡ gate_by (short (taken_by c) at) (wrong_code c))

  fares : (c : Call) → TakesAll c l x z → Fared c
  unfolding follows lent_after
  fares c h = at-short (short (taken_by c) at) refl
    where
      at_code : (b : Bool) → short (taken_by c) at ≡ false → wrong_code c ≡ b → Fared c
      at_code true long e = (is_unknown, h ∙ promise-code c x.code at long e ∙ as_it_was UnknownCode, λ r. rw (long, e) refl)
      at_code false long e = (passes, h ∙ promise-follows c x.code at long e w.sound ∙ rw long refl, λ r. rw (long, e) refl)

      at-short : (b : Bool) → short (taken_by c) at ≡ b → Fared c
      at-short true e = (is-short, h ∙ promise-short c x.code at e ∙ as_it_was ShortBuffer, λ r. rw e refl)
      at-short false e = at_code (wrong_code c) e refl

  restore_fares : (r : Reliable) (h : Option Handoff) → Restores r h l x z → Fared (restores r h)
  unfolding restore_promise
  restore_fares r h m = go (short_record m.numbers m.lengths m.bodies) (m.does l.list l.delivery x.queue w.queue)
    where
      go : (b : Bool)
          → Found z.session z.answer z.events (lent l.list l.delivery z.session.outbound x.queue)
          ≡ (if b then unchanged ShortBuffer x.code at else promise (restores (reliable_of m.given m.numbers m.lengths m.bodies) (handoff_given m.handoff m.body)) x.code at) → Fared (restores r h)
      go true e = (is-short, unlent l x z _ e m.list m.delivery refl m.queue ∙ as_it_was ShortBuffer, λ r. absurd (true≢false r))
      go false e = fares (restores r h) (unlent l x z _ e m.list m.delivery refl m.queue ∙ (λ i. promise (restores (m.record_is i) (m.handoff_is i)) x.code at))

  meets_fares : (c : Call) → Meets c l x z → Fared c
  meets_fares (sends b) m = fares (sends b) (unlent l x z _ (m.0 l.delivery x.queue w.queue) refl m.1 refl m.2)
  meets_fares (gets_data status f) m = fares (gets_data status f) m
  meets_fares (gets_ack n) m = fares (gets_ack n) (unlent l x z _ (m.0 l.delivery) refl m.1 refl refl)
  meets_fares gets_keepalive m = fares gets_keepalive (unreturned l x z _ (m.0 l.delivery x.outbound x.queue w.outbound w.queue) m.1 m.2)
  meets_fares (is_ready status mode) m = fares (is_ready status mode) m
  meets_fares (accepts terms b) m = fares (accepts terms b) (unlent l x z _ (m.0 l.list l.delivery x.queue w.queue) m.1 m.2 refl m.3)
  meets_fares rejects m = fares rejects (unlent l x z _ (m.0 l.delivery x.queue w.queue) refl m.1 refl m.2)
  meets_fares (prepares_channel terms) m = fares (prepares_channel terms) (unlent l x z _ (m.0 l.list l.delivery x.outbound x.queue w.outbound w.queue) m.1 m.2 m.3 m.4)
  meets_fares (commands restoring c) m = fares (commands restoring c) (unlent l x z _ (m.0 l.delivery x.queue w.queue) refl m.1 refl m.2)
  meets_fares prepares m = fares prepares (answering l x z _ z.answer (m.0 l.list l.delivery x.outbound x.queue w.outbound w.queue) m.1)
  meets_fares (completes c p) m = fares (completes c p) (unlent l x z _ (m.0 l.delivery x.outbound x.queue w.outbound w.queue) refl m.1 m.2 m.3)
  meets_fares (connects event now forced) m = fares (connects event now forced) (unlent l x z _ (m.0 l.delivery x.outbound x.queue w.outbound w.queue) refl m.1 m.2 m.3)
  meets_fares (reports what n a) m = fares (reports what n a) (unlent l x z _ (m.0 l.delivery x.outbound x.queue w.outbound w.queue) refl m.1 m.2 m.3)
  meets_fares (fetches n) m = fares (fetches n) (answering l x z _ z.answer (m.0 l.list l.delivery x.queue w.queue) m.1)
  meets_fares (retires retain) m = fares (retires retain) (unlent l x z _ (m.0 l.list l.delivery) m.1 m.2 refl refl)
  meets_fares (restores r h) m = restore_fares r h m

-- ---- the stores of a session begin with its bodies

pub packed-view : (x : Session) → Whole x → Packed x.outbound (view x).state
packed-view x w =
    let i = entered x.code x.outbound x.queue w.sound x.full w.outbound w.queue in
    let n : ℕ = outbound_end (view x).state in
    (drop n x.outbound, sym (take-append-drop n x.outbound) ∙ ap (λ b. b ++ drop n x.outbound) (sym i.stored.outbound))

pub queued-view : (x : Session) → Whole x → Queued x.queue (view x).state
queued-view x w =
    let i = entered x.code x.outbound x.queue w.sound x.full w.outbound w.queue in
    let n : ℕ = queue_end (view x).state in
    (drop n x.queue, sym (take-append-drop n x.queue) ∙ ap (λ b. b ++ drop n x.queue) (sym i.stored.queue))

-- ---- a call

pub record Goes (l : Buffers) (c : Call) (x : Session) (z : Left) : Type 0 where
  pub gate : Gate
  pub gated : is-restore c ≡ false → gate ≡ gate_by (short (taken_by c) (lent-to l (view x))) (wrong_code c)
  pub leaves : view z.session ≡ next gate l c (view x)
  pub shows : shown_by z ≡ shown gate l c (view x)
  pub whole : Whole z.session

outcome-sound : (v : Gate) (c : Call) (s : State) → sound s ≡ true → sound (outcome_of v c s).state ≡ true
outcome-sound passes c s h = step-sound c s h
outcome-sound is-short c s h = h
outcome-sound is_unknown c s h = h

module _ (l : Buffers) (c : Call) (x : Session) (z : Left) (w : Whole x) where
  goes_by : (v : Gate) → Fares l x z w v c → (is-restore c ≡ false → v ≡ gate_by (short (taken_by c) (lent-to l (view x))) (wrong_code c)) → Goes l c x z
  goes_by v f g =
      let t = outcome_of v c (view x).state in
      let n = next v l c (view x) in
      let a : z.answer ≡ t.answer = ap (λ (y : Exit). y.answer) f in
      let k : z.events ≡ length t.events = ap (λ (y : Exit). y.events) f in
      let m : lent-left z ≡ left_of v (lent-to l (view x)) c (view x).state = ap (λ (y : Exit). y.lent) f in
      let h : held z.session.code ≡ encode t.state = ap (λ (y : Exit). y.session) f in
      let ls : z.list ≡ (left_of v (lent-to l (view x)) c (view x).state).list = ap (λ (y : Lent). y.list) m in
      let ds : z.delivery ≡ (left_of v (lent-to l (view x)) c (view x).state).delivery = ap (λ (y : Lent). y.delivery) m in
      let os : z.session.outbound ≡ n.outbound = ap (λ (y : Lent). y.outbound) m in
      let qs : z.session.queue ≡ n.queue = ap (λ (y : Lent). y.queue) m in
      let po : Packed n.outbound t.state = packed-next v l c (view x) (packed-view x w) in
      let pq : Queued n.queue t.state = queued-next v l c (view x) (queued-view x w) in
      let st : (view z.session).state ≡ t.state = held-view t.state z.session.code z.session.outbound z.session.queue po.0 pq.0 h (os ∙ po.1) (qs ∙ pq.1) in
      let es : read_words z.events z.list ≡ (shown v l c (view x)).events = (λ i. read_words (k i) (ls i)) ∙ list_read v l c (view x) in
      let e = entered x.code x.outbound x.queue w.sound x.full w.outbound w.queue in
      record {
        gate = v;
        gated = g;
        leaves = λ i. record { state = st i; outbound = os i; queue = qs i };
        shows = λ i. record { answer = a i; events = es i; delivery = ds i; outbound = os i };
        whole =
            record {
              sound = settles-sound t.state z.session.code z.session.full h (outcome-sound v c (view x).state (parts-sound (view x).state e.good.sound));
              outbound = subst (λ (o : Bytes). 65536 ≤ length o) (sym os) (long-next v l c (view x) 65536 w.outbound);
              queue = subst (λ (q : Bytes). 32768 ≤ length q) (sym qs) (long-queue-next v l c (view x) 32768 w.queue);
            };
      }

  pub goes : Meets c l x z → Goes l c x z
  goes m = let f = meets_fares l x z w c m in goes_by f.0 f.1 f.2

-- ---- a start

abbrev pub first_record : ℕ → Reliable
first_record disposition = record { next = 1; remote = 0; disposition = disposition; unacked = [] }

abbrev pub opened : Opening → Viewed
opened a = record { state = new (first_record a.disposition) a.policy a.reject; outbound = filled (length a.outbound) []; queue = filled (length a.queue) [] }

pub record Begun (a : Opening) (x : Session) : Type 0 where
  pub is : view x ≡ opened a
  pub whole : Whole x

module _ (a : Opening) (x : Session) (h : Starts a x) where
  abbrev Sure : Exit → Type 0
  Sure e = Found x Done 0 (lent [] [] x.outbound x.queue) ≡ e → Begun a x

  abbrev lent-first : Lent
  lent-first = lent [] [] a.outbound a.queue

  not_started : (y : Refusal) → Sure (begins (unstarted y) lent-first)
  not_started y e = let q : Done ≡ Refused y = ap (λ (z : Exit). z.answer) e in let z : ◌≡◌ {A = ℕ} 0 1 = cc in absurd (omega arith)

  begun : 65536 ≤ length a.outbound → 32768 ≤ length a.queue → Sure (begins (started (opened a).state) lent-first)
  unfolding new_stores new packed
  begun lo lq e =
      let k : held x.code ≡ encode (opened a).state = ap (λ (z : Exit). z.session) e in
      let os : x.outbound ≡ (opened a).outbound = ap (λ (z : Exit). z.lent.outbound) e in
      let qs : x.queue ≡ (opened a).queue = ap (λ (z : Exit). z.lent.queue) e in
      let st : (view x).state ≡ (opened a).state = held-view (opened a).state x.code x.outbound x.queue (opened a).outbound (opened a).queue k os qs in
      record {
        is = λ i. record { state = st i; outbound = os i; queue = qs i };
        whole =
            record {
              sound = starts-sound _ [] [] [] a.policy a.reject a.outbound a.queue (record { session = x.code; answer = Done; events = 0 }) x.outbound x.queue h x.full refl;
              outbound = subst (λ (o : Bytes). 65536 ≤ length o) (sym os) (simp (length-replicate) (omega arith));
              queue = subst (λ (q : Bytes). 32768 ≤ length q) (sym qs) (simp (length-replicate) (omega arith));
            };
      }

  pub starts : Begun a x
  unfolding start_promise start short messages_of
  starts =
      if_rule Sure (ltb (length a.outbound) 65536 || ltb (length a.queue) 32768 || short_record [] [] []) _ _ (λ e. not_started ShortBuffer)
      (λ e.
      let long = (or_parts (ltb (length a.outbound) 65536 || ltb (length a.queue) 32768) (short_record [] [] []) e).0 in
      let lo : 65536 ≤ length a.outbound = ltb-false _ _ ((or_parts (ltb (length a.outbound) 65536) (ltb (length a.queue) 32768) long).0) in
      let lq : 32768 ≤ length a.queue = ltb-false _ _ ((or_parts (ltb (length a.outbound) 65536) (ltb (length a.queue) 32768) long).1) in
      if_rule (λ (y : Start). Sure (begins y lent-first)) (ltb 4 a.disposition) _ _ (λ e. not_started _) λ e.
      if_rule (λ (y : Start). Sure (begins y lent-first)) (good_record (first_record a.disposition) && good_policy a.policy && good_reject a.reject) _ _ (λ e. begun lo lq) (λ e. not_started _))
      (h [] [])

-- a start that the rule book does not refuse can be had
pub startable : (a : Opening) → 65536 ≤ length a.outbound → 32768 ≤ length a.queue → start (first_record a.disposition) a.policy a.reject ≡ started (opened a).state → sound (opened a).state ≡ true → Session
startable a lo lq q h =
    record {
      code = realised (opened a).state;
      full = realised_full (opened a).state (sound-parts (opened a).state h);
      outbound = (opened a).outbound;
      queue = (opened a).queue;
    }

pub startable_starts : (a : Opening) (lo : 65536 ≤ length a.outbound) (lq : 32768 ≤ length a.queue) (q : start (first_record a.disposition) a.policy a.reject ≡ started (opened a).state) (h : sound (opened a).state ≡ true)
    → Starts a (startable a lo lq q h)
unfolding startable start_promise messages_of total new_stores new packed
startable_starts a lo lq q h l d =
    let m : Lent = lent l d a.outbound a.queue in
    let long : short (takes false false true true) m ≡ false = long-enough (takes false false true true) m not_taken not_taken (λ e. lo) (λ e. lq) in
    sym (rw long (ap (λ (y : Start). begins y m) q ∙ ap (λ (k : Held). exit k Done 0 (lent l d (opened a).outbound (opened a).queue)) (sym (realised_held (opened a).state))))
