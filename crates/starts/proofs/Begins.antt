-- The session and the stores that a start leaves, and its promise. Assumes nothing.
use Rattle.std.specs.Prelude.{if◌then◌else◌, Result, Ok, Err}
use mathlib.Core.Path.{◌≡◌, refl, sym, ap, ◌∙◌, subst}
use mathlib.Core.Bool.{Bool, true, false, ◌||◌}
use mathlib.Core.List.{List, [], ◌++◌, map, append-nil}
use Prim.Native.Nat.{ℕ, ◌+◌, ◌-◌, ◌≤◌, ◌<◌}
use native.Mathlib.Omega.{arith}
use lib.ListN.{length, take, drop, replicate, length-append, length-replicate, length-map, drop_of_length-le}
use lib.Seq.{take-append_seam}
use borrow.Author.Tests.{lt-ltb, le-ltb}
use Rattle.rules.specs.declared.Answer.TheVariants.{Done}
use Rattle.rules.specs.declared.Policy.{Policy}
use Rattle.rules.specs.declared.Refusal.{Refusal}
use Rattle.rules.specs.declared.Refusal.TheVariants.{ShortBuffer}
use Rattle.rules.specs.Lists.{Bytes, total, itself, packed}
use Rattle.rules.specs.State as R
use Rattle.rules.specs.State.{body_of}
use Rattle.rules.specs.Start.{Start, started, unstarted, start, new, as_sent}
use Rattle.rules.specs.Buffers.{Lent, takes, short, filled, new_stores}
use Rattle.stores.specs.Placed.{placed}
use Rattle.stores.proofs.Laws.{placed-placed, length-placed}
use Rattle.outbox.specs.declared.Outbox.{Outbox}
use Rattle.outbox.specs.View.{used_u}
use Rattle.peer_session.specs.declared.RejectBody.{RejectBody}
use Rattle.peer_session.specs.declared.SessionState.{SessionState}
use Rattle.peer_session.specs.View.{encode, state_of, reject_of}
use Rattle.peer_session.specs.New.{New}
use Rattle.peer_session.proofs.Held.{agree}
use Rattle.peer_session.proofs.Fresh.{new-state}
use Rattle.session.specs.declared.Returned.{Returned}
use Rattle.session.proofs.Promises.{exit_cong}
use Rattle.session.specs.Promise.{lent}
use Rattle.starts.specs.declared.Reliable as Code
use Rattle.starts.specs.Started.{messages_of, short_record, begins, start_promise, Started}
use Rattle.starts.specs.Records.{reliable_of, Recorded, Rejecting, Begun, verdict_of, Judged, NotGood, FoundStart, NotStarted}
use Rattle.starts.proofs.Messages.{Long, long_record, length-messages, packed-messages, recorded-messages, recorded-unacked}
use Rattle.starts.proofs.Checks.{Good}

-- ---- the stores

pub placed-whole : (s x : Bytes) → length x ≡ length s → placed s 0 x ≡ x
unfolding placed
placed-whole s x e =
    let z : length s ≤ 0 + length x = omega arith in
    ap (λ (l : Bytes). x ++ l) (drop_of_length-le s z) ∙ append-nil x

-- bodies from 0, and 0 to the end
pub filled_is : (s b s₁ s₂ : Bytes) (n : ℕ) → length b ≡ n → n ≤ length s → s₁ ≡ placed s 0 b → s₂ ≡ placed s₁ n (replicate (length s - n) 0)
    → s₂ ≡ filled (length s) b
filled_is s b s₁ s₂ n e h e₁ e₂ =
    let z : List ℕ = replicate (length s - n) 0 in
    let lz : length z ≡ length s - n = length-replicate (length s - n) 0 in
    let room : 0 + length b + length z ≤ length s = omega arith in
    let at : n ≡ 0 + length b = omega arith in
    let all : length (b ++ z) ≡ length s = length-append b z ∙ omega arith in
    e₂ ∙ ap (λ (l : Bytes). placed l n z) e₁ ∙ ap (λ (k : ℕ). placed (placed s 0 b) k z) at ∙ placed-placed s 0 b z room ∙ placed-whole s (b ++ z) all
    ∙ ap (λ (k : ℕ). b ++ replicate (length s - k) 0) (sym e)

-- all 0
pub cleared-is : (s : Bytes) → placed s 0 (replicate (length s - 0) 0) ≡ replicate (length s - 0) 0
cleared-is s = placed-whole s (replicate (length s - 0) 0) (length-replicate (length s - 0) 0 ∙ omega arith)

-- ---- the reject body

pub rejecting : (b bytes : Bytes) → length b ≤ 64 → bytes ≡ placed (replicate 64 0) 0 b → Rejecting b (record { bytes = bytes; len = length b })
unfolding placed
rejecting b bytes h e =
    record {
      size = refl;
      body = ap (take (length b)) e ∙ take-append_seam b (drop (0 + length b) (replicate 64 0));
      full = ap length e ∙ length_over b h;
    }
  where
    length_over : (b : Bytes) → length b ≤ 64 → length (placed (replicate 64 0) 0 b) ≡ 64
    length_over b h = length-placed (replicate 64 0) 0 b (omega (arith, length-replicate {A = ℕ} 64 0)) ∙ length-replicate {A = ℕ} 64 0

-- ---- the session

module _ {x : Outbox} {policy : Policy} {j : RejectBody} {r : SessionState} (c : Code.Reliable) (ns ks : List ℕ) (reject : Bytes)
    (n : New x c.remote_number c.disposition policy j r) (o : Recorded c.message_number ns ks x) (k : Rejecting reject j) where
  pub begun-is : Begun c ns ks policy reject r
  unfolding new encode
  begun-is b e =
      let l : Long ns ks b = long_record ns ks b e in
      let ms : List R.Message = messages_of ns ks b in
      let s : state_of r b [] ≡ new (record { next = x.next; remote = c.remote_number; disposition = c.disposition; unacked = ms }) policy (reject_of j) =
      new-state n ms b [] (recorded-unacked o b) in
      agree
      (record {
        next = ap (λ (y : Outbox). y.next) n.outbox ∙ o.next_is;
        unackeds =
            ap (λ (y : Outbox). y.count) n.outbox ∙ o.count_is ∙ sym (length-messages ns ks b l.enough) ∙ sym (length-map ms as_sent);
        unacked = ap used_u n.outbox ∙ recorded-messages o b l;
        remote = n.number;
        released = n.released;
        queues = n.queue.none;
        queue = ap (λ (i : ℕ). take i r.queue.records) n.queue.none;
        waits = n.waiting;
        waiting = ap (λ (t : R.State). t.inbox.waiting) s;
        retries = n.retry;
        retry = ap (λ (t : R.State). t.inbox.retry) s;
        clock = n.clock;
        stage = ap (λ (t : R.State). t.stage) s;
        handed = ap (λ (t : Bool). if t then r.handoff.len else 0) n.handoff.absent;
        policy = n.policy_is;
        rejects = ap (λ (y : RejectBody). y.len) n.reject_is ∙ k.size;
        reject = ap reject_of n.reject_is ∙ k.body;
      })

-- ---- the promise

module _ (c : Code.Reliable) (ns ks : List ℕ) (b : Bytes) (policy : Policy) (reject o q : Bytes) where
  -- refused: by a store, or by the record
  pub outbound-short : (x : Returned) → length o < 65536 → NotStarted ShortBuffer x → Started c ns ks b policy reject o q x o q
  unfolding start_promise short
  outbound-short x h n l d = exit_cong n.session n.answer n.events refl ∙ rw (lt-ltb (length o) 65536 h)

  module _ (ho : 65536 ≤ length o) where
    pub queue-short : (x : Returned) → length q < 32768 → NotStarted ShortBuffer x → Started c ns ks b policy reject o q x o q
    unfolding start_promise short
    queue-short x h n l d = exit_cong n.session n.answer n.events refl ∙ rw (le-ltb (length o) 65536 ho, lt-ltb (length q) 32768 h)

    module _ (hq : 32768 ≤ length q) where
      long-stores : (l : List ℕ) (d : Bytes) → short (takes false false true true) (lent l d o q) ≡ false
      unfolding short
      long-stores l d = rw (le-ltb (length o) 65536 ho, le-ltb (length q) 32768 hq)

      pub record_refused : (x : Returned) (y : Refusal) → Err y ≡ verdict_of (short_record ns ks b) (start (reliable_of c ns ks b) policy reject)
          → NotStarted y x → Started c ns ks b policy reject o q x o q
      unfolding start_promise
      record_refused x y e n l d =
          exit_cong n.session n.answer n.events refl
          ∙ sym (by_verdict (short (takes false false true true) (lent l d o q)) (short_record ns ks b) (start (reliable_of c ns ks b) policy reject) (lent l d o q) (long-stores l d) e)
        where
          by_verdict : (t s : Bool) (z : Start) (l : Lent) → t ≡ false → Err y ≡ verdict_of s z
              → (if t || s then begins (unstarted ShortBuffer) l else begins z l) ≡ begins (unstarted y) l
          by_verdict true s z l f e = absurd (let z : ◌≡◌ {A = ℕ} 0 1 = cc in omega arith)
          by_verdict false true z l f e = let g : y ≡ ShortBuffer = cc in ap (λ (w : Refusal). begins (unstarted w) l) (sym g)
          by_verdict false false (started t) l f e = absurd (let z : ◌≡◌ {A = ℕ} 0 1 = cc in omega arith)
          by_verdict false false (unstarted w) l f e = let g : y ≡ w = cc in ap (λ (w : Refusal). begins (unstarted w) l) (sym g)

      pub record_started : (x : SessionState) (o' q' : Bytes) → Good (short_record ns ks b) (reliable_of c ns ks b) policy reject → Begun c ns ks policy reject x
          → o' ≡ filled (length o) (take (total itself (take (length ns) ks)) b) → q' ≡ placed q 0 (replicate (length q - 0) 0)
          → Started c ns ks b policy reject o q (record { session = x; answer = Done; events = 0 }) o' q'
      unfolding start_promise new_stores new packed
      record_started x o' q' g h eo eq l d =
          let enough : length ns ≤ length ks = (long_record ns ks b g.long).enough in
          let fo : o' ≡ filled (length o) (packed body_of (map as_sent (messages_of ns ks b))) =
          eo ∙ ap (filled (length o)) (sym (packed-messages ns ks b enough)) in
          exit_cong (h b g.long) refl refl (stores_cong fo (eq ∙ cleared-is q)) ∙ sym (by_start _ _ _ (long-stores l d) g.long g.starts)
        where
          stores_cong : {e f g h : Bytes} → e ≡ f → g ≡ h → lent l d e g ≡ lent l d f h
          stores_cong p r = cc

          by_start : (t s : Bool) (z : Start) → t ≡ false → s ≡ false → z ≡ started (new (reliable_of c ns ks b) policy reject)
              → (if t || s then begins (unstarted ShortBuffer) (lent l d o q) else begins z (lent l d o q))
              ≡ begins (started (new (reliable_of c ns ks b) policy reject)) (lent l d o q)
          by_start t s z e f g = rw (e, f, g)

-- ---- the tests

module _ (x : Code.Reliable) (ns ks : List ℕ) (bodies : Bytes) (policy : Policy) (reject : Bytes) {n m : ℕ} where
  pub short-outbound : n < 65536 → NotGood x ns ks bodies policy reject n m ShortBuffer
  short-outbound h = record { call = λ o q eo eq r t. outbound-short x ns ks bodies policy reject o q r (omega (arith, eo)) t }

  module _ (lo : 65536 ≤ n) where
    pub short-queue : m < 32768 → NotGood x ns ks bodies policy reject n m ShortBuffer
    short-queue h = record { call = λ o q eo eq r t. queue-short x ns ks bodies policy reject o q (omega (arith, eo)) r (omega (arith, eq)) t }

    pub judged : 32768 ≤ m → {v : Result (Unit {0}) Refusal} → v ≡ verdict_of (short_record ns ks bodies) (start (reliable_of x ns ks bodies) policy reject)
        → FoundStart x ns ks bodies policy reject n m v
    judged lq {v = Ok u} e = record { outbound = lo; queue = lq; good = sym e }
    judged lq {v = Err z} e =
        record { call = λ o q eo eq r t. record_refused x ns ks bodies policy reject o q (omega (arith, eo)) (omega (arith, eq)) r z e t }

-- what the tests found, by their stop
module _ (x : Code.Reliable) (ns ks : List ℕ) (bodies : Bytes) (policy : Policy) (reject : Bytes) {n m : ℕ} {stop : Result (Unit {0}) Refusal}
    (f : FoundStart x ns ks bodies policy reject n m stop) where
  pub away : (z : Refusal) → stop ≡ Err z → NotGood x ns ks bodies policy reject n m z
  away z e = subst (λ (s : Result (Unit {0}) Refusal). FoundStart x ns ks bodies policy reject n m s) e f

  pub goes : stop ≡ Ok tt → Judged x ns ks bodies policy reject n m
  goes e = subst (λ (s : Result (Unit {0}) Refusal). FoundStart x ns ks bodies policy reject n m s) e f
