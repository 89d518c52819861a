-- Every call on every session of a history has a result that meets its contract: the statement asks for nothing that cannot be. Assumes nothing.
use Rattle.std.specs.Prelude.{if◌then◌else◌}
use mathlib.Core.Path.{◌≡◌, refl, sym, ap, ◌∙◌, subst}
use mathlib.Core.Bool.{Bool, true, false}
use mathlib.Core.List.{List, [], ◌∷◌, ◌++◌, map}
use mathlib.Core.Option.{Option, none, some}
use Prim.Native.Nat.{ℕ, ◌≤◌}
use lib.ListN.{length, take, drop, length-append, length-map}
use lib.Dec.{ltb}
use borrow.Author.Tests.{le-ltb}
use native.Mathlib.Omega.{arith}
use Rattle.rules.specs.declared.Refusal.TheVariants.{ShortBuffer, UnknownCode}
use Rattle.rules.specs.Lists.{Bytes, packed, total, itself}
use Rattle.rules.specs.State.{Message, Handoff, State, body_of}
use Rattle.rules.specs.Progress.{Outcome}
use Rattle.rules.specs.Acks.{receive_keepalive}
use Rattle.rules.specs.Commits.{prepare_commit}
use Rattle.rules.specs.Replay.{fetch}
use Rattle.rules.specs.Start.{Reliable, message_number, message_size}
use Rattle.rules.specs.Calls.{Call, sends, gets_data, gets_ack, gets_keepalive, is_ready, accepts, rejects, prepares_channel, commands, prepares, completes, connects, reports, fetches, retires, restores, step}
use Rattle.rules.specs.Buffers.{Lent, Takes, takes, taken_by, short, wrong_code, over, flat, list_after, repacked, outbound_end, outbound_after, lent_after}
use Rattle.rules.proofs.Sound.{sound-parts, parts-sound, step-sound}
use Rattle.outbox.specs.View.{record_u, unacked_of}
use Rattle.outbox.proofs.View.{exact-records}
use Rattle.queue.specs.View.{record_q, frames_of}
use Rattle.queue.proofs.View.{frames-length, frames-records}
use Rattle.peer_session.specs.declared.SessionState.{SessionState}
use Rattle.peer_session.specs.View.{Held, held, encode, state_of}
use Rattle.peer_session.specs.Sound.{sound_of, Full}
use Rattle.session.specs.Promise.{Exit, exit, lent, unchanged, follows, promise}
use Rattle.session.proofs.Promises.{promise-short, promise-code, promise-follows, exit_cong, lent_cong, outbound-same}
use Rattle.session.proofs.Entry.{Entered, entered}
use Rattle.starts.specs.Started.{messages_of, short_record}
use Rattle.starts.specs.Records.{reliable_of}
use Rattle.starts.specs.declared.Reliable as Code
use Rattle.restores.specs.declared.Handoff as Given
use Rattle.restores.specs.Restored.{handoff_given, restore_promise}
use Rattle.fetches.specs.Fetched.{AnsweredWithOutbound}
use Rattle.history.specs.Promises.{Session, Buffers, Left, only_answers, TakesAll, TakesListAndStores, TakesListAndOutbound, TakesList, TakesListToTell, TakesStores, TakesOutbound, TakesNothing, OnlyAnswers, Restores, Meets}
use Rattle.history.proofs.Viewed.{view}
use Rattle.history.proofs.Listed.{length-listed}
use Rattle.history.proofs.Independent.{Alike, Beside, beside_alike, queue_beside, stores_alike}
use Rattle.history.proofs.Realised.{realised, realised_held, realised_full}
use Rattle.history.proofs.Meets.{Whole}

-- ---- the promise with other buffers

-- the same with the buffers changed by g
abbrev with_lent : (Lent → Lent) → Exit → Exit
with_lent g e = exit e.session e.answer e.events (g e.lent)

related : (g : Lent → Lent) (c : Call) (s : SessionState) (l m : Lent) → sound_of s ≡ true → short (taken_by c) l ≡ short (taken_by c) m → l ≡ g m
    → (short (taken_by c) m ≡ false → follows c (state_of s l.outbound l.queue) l ≡ with_lent g (follows c (state_of s m.outbound m.queue) m))
    → promise c s l ≡ with_lent g (promise c s m)
related g c s l m sound p q f = at-short (short (taken_by c) m) refl
  where
    at_code : (b : Bool) → short (taken_by c) m ≡ false → wrong_code c ≡ b → promise c s l ≡ with_lent g (promise c s m)
    at_code true e k = promise-code c s l (p ∙ e) k ∙ ap (λ z. unchanged UnknownCode s z) q ∙ ap (with_lent g) (sym (promise-code c s m e k))
    at_code false e k = promise-follows c s l (p ∙ e) k sound ∙ f e ∙ ap (with_lent g) (sym (promise-follows c s m e k sound))

    at-short : (b : Bool) → short (taken_by c) m ≡ b → promise c s l ≡ with_lent g (promise c s m)
    at-short true e = promise-short c s l (p ∙ e) ∙ ap (λ z. unchanged ShortBuffer s z) q ∙ ap (with_lent g) (sym (promise-short c s m e))
    at-short false e = at_code (wrong_code c) e refl

alike_list : {a b : Outcome} (l : List ℕ) → Alike a b → list_after a l ≡ list_after b l
unfolding list_after
alike_list l h = ap (λ z. over (flat z) l) h.words

alike_count : {a b : Outcome} → Alike a b → length a.events ≡ length b.events
alike_count {a} {b} h = sym (length-listed a.state.outbox.unacked 0 a.events) ∙ ap length h.words ∙ length-listed b.state.outbox.unacked 0 b.events

module _ (c : Call) (s : SessionState) (sound : sound_of s ≡ true) (full : Full s) where
  abbrev Long : Bytes → Bytes → Type 0
  Long o q = (65536 ≤ length o) × (32768 ≤ length q)

  in_session : (o q : Bytes) → Long o q → Entered s o q
  in_session o q h = entered s o q sound full h.0 h.1

  same-frames : (o o' q q' : Bytes) → Long o q → Long o' q' → map record_q (frames_of s.queue q) ≡ map record_q (frames_of s.queue q')
  same-frames o o' q q' h k = frames-records s.queue q (in_session o q h).good.exact.queued ∙ sym (frames-records s.queue q' (in_session o' q' k).good.exact.queued)

  same_count : (o o' q q' : Bytes) → Long o q → Long o' q' → length (frames_of s.queue q) ≡ length (frames_of s.queue q')
  same_count o o' q q' h k = frames-length s.queue q (in_session o q h).good.exact.queued ∙ sym (frames-length s.queue q' (in_session o' q' k).good.exact.queued)

  same-messages : (o o' q q' : Bytes) → Long o q → Long o' q' → map record_u (unacked_of s.outbox o) ≡ map record_u (unacked_of s.outbox o')
  same-messages o o' q q' h k = sym (exact-records s.outbox o (in_session o q h).good.exact.outbox) ∙ exact-records s.outbox o' (in_session o' q' k).good.exact.outbox

  -- a call that does not take the queue store
  beside : (o q q' : Bytes) → (taken_by c).queue ≡ false → Long o q → Long o q' → Beside (step c (state_of s o q)) (step c (state_of s o q'))
  beside o q q' e h k = queue_beside c (state_of s o q') (frames_of s.queue q) e (same-frames o o q q' h k) (same_count o o q q' h k)

  -- a call that takes neither store
  alike : (o o' q q' : Bytes) → (taken_by c).outbound ≡ false → (taken_by c).queue ≡ false → Long o q → Long o' q' → Alike (step c (state_of s o q)) (step c (state_of s o' q'))
  alike o o' q q' e f h k =
      stores_alike c (state_of s o' q') (unacked_of s.outbox o) (frames_of s.queue q) e f (same-messages o o' q q' h k) (same-frames o o' q q' h k) (same_count o o' q q' h k)

  taken : {x : Takes} → taken_by c ≡ x → ((taken_by c).outbound ≡ x.outbound) × ((taken_by c).queue ≡ x.queue)
  taken e = (ap (λ (z : Takes). z.outbound) e, ap (λ (z : Takes). z.queue) e)

  beside_outbound : (o q q' : Bytes) → Beside (step c (state_of s o q)) (step c (state_of s o q')) → outbound_after c (state_of s o q) o ≡ outbound_after c (state_of s o q') o
  unfolding outbound_after
  beside_outbound o q q' h = λ i. repacked (outbound_end (state_of s o q)) (packed body_of (h.outbox i).unacked) o

  -- the list and the outbound store
  with_outbound : taken_by c ≡ takes true false true false → (l : List ℕ) (d d' o q q' : Bytes) → Long o q → Long o q'
      → promise c s (lent l d o q) ≡ with_lent (λ m. lent m.list d m.outbound q) (promise c s (lent l d' o q'))
  unfolding follows lent_after short
  with_outbound is l d d' o q q' h k =
      related (λ m. lent m.list d m.outbound q) c s (lent l d o q) (lent l d' o q') sound (rw is refl) refl
      (λ e.
      let b = beside o q q' (taken is).1 h k in
      rw is (rw (rw is at e) (exit_cong b.session b.answer (ap length b.events) (lent_cong (alike_list l (beside_alike b)) refl (beside_outbound o q q' b) refl))))

  -- the outbound store alone
  with_outbound_alone : taken_by c ≡ takes false false true false → (l l' : List ℕ) (d d' o q q' : Bytes) → Long o q → Long o q'
      → promise c s (lent l d o q) ≡ with_lent (λ m. lent l d m.outbound q) (promise c s (lent l' d' o q'))
  unfolding follows lent_after short
  with_outbound_alone is l l' d d' o q q' h k =
      related (λ m. lent l d m.outbound q) c s (lent l d o q) (lent l' d' o q') sound (rw is refl) refl
      (λ e.
      let b = beside o q q' (taken is).1 h k in
      rw is (rw (rw is at e) (exit_cong b.session b.answer (ap length b.events) (lent_cong refl refl (beside_outbound o q q' b) refl))))

  -- the list alone
  with_list : taken_by c ≡ takes true false false false → (l : List ℕ) (d d' o o' q q' : Bytes) → Long o q → Long o' q'
      → promise c s (lent l d o q) ≡ with_lent (λ m. lent m.list d o q) (promise c s (lent l d' o' q'))
  unfolding follows lent_after short
  with_list is l d d' o o' q q' h k =
      related (λ m. lent m.list d o q) c s (lent l d o q) (lent l d' o' q') sound (rw is refl) refl
      (λ e.
      let a = alike o o' q q' (taken is).0 (taken is).1 h k in
      rw is (rw (rw is at e) (exit_cong a.session a.answer (alike_count a) (lent_cong (alike_list l a) refl refl refl))))

  -- nothing
  with_nothing : taken_by c ≡ takes false false false false → (l l' : List ℕ) (d d' o o' q q' : Bytes) → Long o q → Long o' q'
      → promise c s (lent l d o q) ≡ with_lent (λ m. lent l d o q) (promise c s (lent l' d' o' q'))
  unfolding follows lent_after short
  with_nothing is l l' d d' o o' q q' h k =
      related (λ m. lent l d o q) c s (lent l d o q) (lent l' d' o' q') sound (rw is refl) refl
      (λ e.
      let a = alike o o' q q' (taken is).0 (taken is).1 h k in
      rw is (exit_cong a.session a.answer (alike_count a) refl))

  -- list and stores; both stores
  with_stores : taken_by c ≡ takes true false true true → (l : List ℕ) (d d' o q : Bytes) → promise c s (lent l d o q) ≡ with_lent (λ m. lent m.list d m.outbound m.queue) (promise c s (lent l d' o q))
  unfolding follows lent_after short
  with_stores is l d d' o q = related (λ m. lent m.list d m.outbound m.queue) c s (lent l d o q) (lent l d' o q) sound (rw is refl) refl (λ e. rw is (rw (rw is at e) refl))

  with_stores_alone : taken_by c ≡ takes false false true true → (l l' : List ℕ) (d d' o q : Bytes) → promise c s (lent l d o q) ≡ with_lent (λ m. lent l d m.outbound m.queue) (promise c s (lent l' d' o q))
  unfolding follows lent_after short
  with_stores_alone is l l' d d' o q = related (λ m. lent l d m.outbound m.queue) c s (lent l d o q) (lent l' d' o q) sound (rw is refl) refl (λ e. rw is (rw (rw is at e) refl))

-- ---- a record as three slices

abbrev message-body : Message → Bytes
message-body m = m.body

take-front : (b r : Bytes) → take (length b) (b ++ r) ≡ b
take-front [] r = refl
take-front (x ∷ b) r = ap (λ z. x ∷ z) (take-front b r)

drop-front : (b r : Bytes) → drop (length b) (b ++ r) ≡ r
drop-front [] r = refl
drop-front (x ∷ b) r = drop-front b r

messages-back : (ms : List Message) → messages_of (map message_number ms) (map message_size ms) (packed message-body ms) ≡ ms
unfolding messages_of packed
messages-back [] = refl
messages-back (m ∷ ms) =
    (λ i. record { number = m.number; body = take-front m.body (packed message-body ms) i } ∷ messages_of (map message_number ms) (map message_size ms) (drop-front m.body (packed message-body ms) i))
    ∙ ap (λ z. m ∷ z) (messages-back ms)

size : (ms : List Message) → total itself (take (length (map message_number ms)) (map message_size ms)) ≡ length (packed message-body ms)
unfolding total packed
size [] = refl
size (m ∷ ms) = omega (arith, size ms, length-append m.body (packed message-body ms))

not_short : (ms : List Message) → short_record (map message_number ms) (map message_size ms) (packed message-body ms) ≡ false
not_short ms =
    let ns : List ℕ = map message_number ms in
    let ks : List ℕ = map message_size ms in
    let p : ltb (length ks) (length ns) ≡ false = le-ltb (length ks) (length ns) (omega (arith, length-map ms message_number, length-map ms message_size)) in
    let q : ltb (length (packed message-body ms)) (total itself (take (length ns) ks)) ≡ false = le-ltb (length (packed message-body ms)) (total itself (take (length ns) ks)) (omega (arith, size ms)) in
    rw (p, q) refl

-- ---- a handoff as a struct and a slice

abbrev handoff_struct : Option Handoff → Given.Handoff
handoff_struct none = record { id = 0; number = 0; sent = false; acknowledged = false; present = false }
handoff_struct (some h) = record { id = h.id; number = h.number; sent = h.sent; acknowledged = h.acknowledged; present = true }

abbrev handoff-body : Option Handoff → Bytes
handoff-body none = []
handoff-body (some h) = h.body

handoff-back : (h : Option Handoff) → handoff_given (handoff_struct h) (handoff-body h) ≡ h
handoff-back none = refl
handoff-back (some h) = refl

-- ---- a result

module _ (l : Buffers) (x : Session) (w : Whole x) where
  abbrev s : SessionState
  s = x.code

  abbrev t : State
  t = (view x).state

  abbrev here : Lent
  here = lent l.list l.delivery x.outbound x.queue

  abbrev P : Call → Exit
  P c = promise c s here

  within : Entered s x.outbound x.queue
  within = entered s x.outbound x.queue w.sound x.full w.outbound w.queue

  abbrev all-long : (65536 ≤ length x.outbound) × (32768 ≤ length x.queue)
  all-long = (w.outbound, w.queue)

  -- by the tests of the promise
  promise_rule : (c : Call) (R : Exit → Type 0) → R (unchanged ShortBuffer s here) → R (unchanged UnknownCode s here) → (short (taken_by c) here ≡ false → R (follows c t here)) → R (P c)
  promise_rule c R f g h = at-short (short (taken_by c) here) refl
    where
      at_code : (b : Bool) → short (taken_by c) here ≡ false → wrong_code c ≡ b → R (P c)
      at_code true e k = subst R (sym (promise-code c s here e k)) g
      at_code false e k = subst R (sym (promise-follows c s here e k w.sound)) (h e)

      at-short : (b : Bool) → short (taken_by c) here ≡ b → R (P c)
      at-short true e = subst R (sym (promise-short c s here e)) f
      at-short false e = at_code (wrong_code c) e refl

  -- a struct
  record Made (h : Held) : Type 0 where
    code : SessionState
    full : Full code
    is : held code ≡ h

  made : (c : Call) → Made (P c).session
  unfolding follows
  made c =
      promise_rule c (λ (e : Exit). Made e.session) (record { code = s; full = x.full; is = refl }) (record { code = s; full = x.full; is = refl })
      (λ e.
      record {
        code = realised (step c t).state;
        full = realised_full (step c t).state (sound-parts (step c t).state (step-sound c t (parts-sound t within.good.sound)));
        is = realised_held (step c t).state;
      })

  abbrev result : (c : Call) → Left
  result c =
      record {
        session = record { code = (made c).code; full = (made c).full; outbound = (P c).lent.outbound; queue = (P c).lent.queue };
        answer = (P c).answer;
        events = (P c).events;
        list = (P c).lent.list;
        delivery = (P c).lent.delivery;
      }

  -- with the struct for what it settles
  settled : (c : Call) (m : Lent) {e : Exit} → e ≡ exit (P c).session (P c).answer (P c).events m → exit (held (made c).code) (P c).answer (P c).events m ≡ e
  settled c m q = ap (λ (h : Held). exit h (P c).answer (P c).events m) (made c).is ∙ sym q

  all-taken : (c : Call) → TakesAll c l x (result c)
  all-taken c = settled c (P c).lent refl

  list_and_stores : (c : Call) → taken_by c ≡ takes true false true true → TakesListAndStores c l x (result c)
  list_and_stores c is = (
    λ d. settled c _ (with_stores c s w.sound x.full is l.list d l.delivery x.outbound x.queue),
    ap (λ (e : Exit). e.lent.delivery) (with_stores c s w.sound x.full is l.list l.delivery l.delivery x.outbound x.queue),
  )

  list_and_outbound : (c : Call) → taken_by c ≡ takes true false true false → TakesListAndOutbound c l x (result c)
  list_and_outbound c is =
      let same = with_outbound c s w.sound x.full is l.list l.delivery l.delivery x.outbound x.queue x.queue all-long all-long in (
        λ d q h. settled c _ (with_outbound c s w.sound x.full is l.list d l.delivery x.outbound q x.queue (w.outbound, h) all-long),
        ap (λ (e : Exit). e.lent.delivery) same,
        ap (λ (e : Exit). e.lent.queue) same,
      )

  list-only : (c : Call) → taken_by c ≡ takes true false false false → TakesList c l x (result c)
  list-only c is =
      let same = with_list c s w.sound x.full is l.list l.delivery l.delivery x.outbound x.outbound x.queue x.queue all-long all-long in (
        λ d o q h k. settled c _ (with_list c s w.sound x.full is l.list d l.delivery o x.outbound q x.queue (h, k) all-long),
        ap (λ (e : Exit). e.lent.delivery) same,
        ap (λ (e : Exit). e.lent.outbound) same,
        ap (λ (e : Exit). e.lent.queue) same,
      )

  stores-only : (c : Call) → taken_by c ≡ takes false false true true → TakesStores c l x (result c)
  stores-only c is =
      let same = with_stores_alone c s w.sound x.full is l.list l.list l.delivery l.delivery x.outbound x.queue in (
        λ a d. settled c _ (with_stores_alone c s w.sound x.full is a l.list d l.delivery x.outbound x.queue),
        ap (λ (e : Exit). e.lent.list) same,
        ap (λ (e : Exit). e.lent.delivery) same,
      )

  outbound-only : (c : Call) → taken_by c ≡ takes false false true false → TakesOutbound c l x (result c)
  outbound-only c is =
      let same = with_outbound_alone c s w.sound x.full is l.list l.list l.delivery l.delivery x.outbound x.queue x.queue all-long all-long in (
        λ a d q h. settled c _ (with_outbound_alone c s w.sound x.full is a l.list d l.delivery x.outbound q x.queue (w.outbound, h) all-long),
        ap (λ (e : Exit). e.lent.list) same,
        ap (λ (e : Exit). e.lent.delivery) same,
        ap (λ (e : Exit). e.lent.queue) same,
      )

  nothing-taken : (c : Call) → taken_by c ≡ takes false false false false → TakesNothing c l x (result c)
  nothing-taken c is =
      let same = with_nothing c s w.sound x.full is l.list l.list l.delivery l.delivery x.outbound x.outbound x.queue x.queue all-long all-long in (
        λ a d o q h k. settled c _ (with_nothing c s w.sound x.full is a l.list d l.delivery o x.outbound q x.queue (h, k) all-long),
        ap (λ (e : Exit). e.lent.list) same,
        ap (λ (e : Exit). e.lent.delivery) same,
        ap (λ (e : Exit). e.lent.outbound) same,
        ap (λ (e : Exit). e.lent.queue) same,
      )

  -- ---- calls that hand no session back

  still : (c : Call) → (step c t).state ≡ t → (P c).session ≡ held s
  unfolding follows
  still c e = promise_rule c (λ (y : Exit). y.session ≡ held s) refl refl (λ q. ap encode e ∙ sym within.held-is)

  unlisted : (c : Call) → (step c t).events ≡ [] → (P c).events ≡ 0
  unfolding follows
  unlisted c e = promise_rule c (λ (y : Exit). y.events ≡ 0) refl refl (λ q. ap length e)

  told-only : (c : Call) → taken_by c ≡ takes true false false false → (step c t).state ≡ t
      → TakesListToTell c l x (record { session = x; answer = (P c).answer; events = (P c).events; list = (P c).lent.list; delivery = l.delivery })
  told-only c is e = (
    λ d o q h k.
        ap (λ (y : Held). exit y (P c).answer (P c).events (lent (P c).lent.list d o q)) (sym (still c e))
        ∙ sym (with_list c s w.sound x.full is l.list d l.delivery o x.outbound q x.queue (h, k) all-long),
    refl,
    refl,
  )

  answered-only : (c : Call) → taken_by c ≡ takes false false false false → (step c t).state ≡ t → (step c t).events ≡ [] → OnlyAnswers c l x (only_answers l x (P c).answer)
  answered-only c is e f = (
    λ a d o q h k.
        (λ i. exit (sym (still c e) i) (P c).answer (sym (unlisted c f) i) (lent a d o q))
        ∙ sym (with_nothing c s w.sound x.full is a l.list d l.delivery o x.outbound q x.queue (h, k) all-long),
    refl,
  )

  fetch-leaves : (n : ℕ) → (P (fetches n)).lent.outbound ≡ x.outbound
  unfolding follows lent_after taken_by outbound_after step fetch
  fetch-leaves n = promise_rule (fetches n) (λ (y : Exit). y.lent.outbound ≡ x.outbound) refl refl (λ q. rw q (outbound-same within.stored))

  pub found-only : (n : ℕ) → AnsweredWithOutbound (fetches n) s x.outbound (P (fetches n)).answer
  unfolding taken_by step fetch
  found-only n = λ a d q h.
      (λ i. exit (sym (still (fetches n) refl) i) (P (fetches n)).answer (sym (unlisted (fetches n) refl) i) (lent a d (sym (fetch-leaves n) i) q))
      ∙ sym (with_outbound_alone (fetches n) s w.sound x.full refl a l.list d l.delivery x.outbound q x.queue (w.outbound, h) all-long)

  restored-only : (r : Reliable) (h : Option Handoff) → Restores r h l x (result (restores r h))
  unfolding taken_by restore_promise
  restored-only r h =
      let o = outbound-only (restores r h) refl in
      let given : Code.Reliable = record { message_number = r.next; remote_number = r.remote; disposition = r.disposition } in
      let ns : List ℕ = map message_number r.unacked in
      let ks : List ℕ = map message_size r.unacked in
      let b : Bytes = packed message-body r.unacked in
      let is : reliable_of given ns ks b ≡ r = ap (λ (ms : List Message). record { next = r.next; remote = r.remote; disposition = r.disposition; unacked = ms }) (messages-back r.unacked) in
      let hs : handoff_given (handoff_struct h) (handoff-body h) ≡ h = handoff-back h in
      record {
        given = given;
        numbers = ns;
        lengths = ks;
        bodies = b;
        handoff = handoff_struct h;
        body = handoff-body h;
        record_is = is;
        handoff_is = hs;
        does = λ a d q k. o.0 a d q k ∙ (λ i. promise (restores (sym is i) (sym hs i)) s (lent a d x.outbound q)) ∙ ap (λ (y : Bool). if y then unchanged ShortBuffer s (lent a d x.outbound q) else promise (restores (reliable_of given ns ks b) (handoff_given (handoff_struct h) (handoff-body h))) s (lent a d x.outbound q)) (sym (not_short r.unacked));
        list = o.1;
        delivery = o.2;
        queue = o.3;
      }

  -- every call has a result
  pub record Possible (c : Call) : Type 0 where
    pub left : Left
    pub meets : Meets c l x left

  pub possible : (c : Call) → Possible c
  unfolding taken_by step receive_keepalive prepare_commit
  possible (sends b) = record { left = result (sends b); meets = list_and_outbound (sends b) refl }
  possible (gets_data status f) = record { left = result (gets_data status f); meets = all-taken (gets_data status f) }
  possible (gets_ack n) = record { left = result (gets_ack n); meets = list_and_stores (gets_ack n) refl }
  possible gets_keepalive = record { left = record { session = x; answer = (P gets_keepalive).answer; events = (P gets_keepalive).events; list = (P gets_keepalive).lent.list; delivery = l.delivery }; meets = told-only gets_keepalive refl refl }
  possible (is_ready status mode) = record { left = result (is_ready status mode); meets = all-taken (is_ready status mode) }
  possible (accepts terms b) = record { left = result (accepts terms b); meets = outbound-only (accepts terms b) refl }
  possible rejects = record { left = result rejects; meets = list_and_outbound rejects refl }
  possible (prepares_channel terms) = record { left = result (prepares_channel terms); meets = nothing-taken (prepares_channel terms) refl }
  possible (commands restoring c) = record { left = result (commands restoring c); meets = list_and_outbound (commands restoring c) refl }
  possible prepares = record { left = only_answers l x (P prepares).answer; meets = answered-only prepares refl refl refl }
  possible (completes c persisted) = record { left = result (completes c persisted); meets = list-only (completes c persisted) refl }
  possible (connects event now forced) = record { left = result (connects event now forced); meets = list-only (connects event now forced) refl }
  possible (reports what n accepted) = record { left = result (reports what n accepted); meets = list-only (reports what n accepted) refl }
  possible (fetches n) = record { left = only_answers l x (P (fetches n)).answer; meets = (found-only n, refl) }
  possible (retires retain) = record { left = result (retires retain); meets = stores-only (retires retain) refl }
  possible (restores r h) = record { left = result (restores r h); meets = restored-only r h }
