-- The view: a session settles what its state asks for, what settles a state is viewed as it, and both are sound together. Assumes nothing.
use Rattle.std.specs.Prelude.{if◌then◌else◌}
use mathlib.Core.Path.{◌≡◌, refl, sym, ap, ◌∙◌}
use mathlib.Core.Bool.{Bool, true, false}
use mathlib.Core.List.{List, [], ◌∷◌, ◌++◌, map}
use mathlib.Core.Option.{none, some}
use Prim.Native.Nat.{ℕ, ◌-◌, ◌≤◌}
use native.Mathlib.Omega.{arith}
use lib.ListN.{length, take, replicate, length-replicate}
use lib.Seq.{length-take-le}
use lib.Dec.{leb}
use borrow.Author.Tests.{le-leb, leb-true}
use Rattle.std.proofs.lemmas.Bool.{and_parts}
use Rattle.rules.specs.Lists.{Bytes, all, packed, rising, itself}
use Rattle.rules.specs.State as R
use Rattle.rules.specs.State.{body_of, frame_body}
use Rattle.rules.specs.Start.{good_policy, good_reject, handoff_size}
use Rattle.rules.specs.Sound.{at_most, sound_fixed}
use Rattle.rules.proofs.Lists.{and_both, every_true, true_every}
use Rattle.rules.proofs.Inboxes as In
use Rattle.rules.proofs.Sound.{Sound}
use Rattle.stores.proofs.Packs.{cut-packed}
use Rattle.stores.specs.Packed.{cut}
use Rattle.numbers.specs.Seats.{in_use, ExactNumbers}
use Rattle.numbers.proofs.Laws.{exact-length}
use Rattle.outbox.specs.View.{unacked_of, ExactOutbox}
use Rattle.outbox.specs.Sound.{sound_outbox_of}
use Rattle.outbox.proofs.View.{exact-count, exact-records, unacked_of_view, sound-outbox-good, good-sound-outbox}
use Rattle.queue.specs.declared.Queued.{Queued}
use Rattle.queue.specs.View.{len_q, frame, record_q, frames_of, ExactQueue}
use Rattle.queue.specs.Sound.{sound_queue}
use Rattle.queue.proofs.View.{pack_q, frames-length, frames-records}
use Rattle.queue.proofs.Sound.{GoodQueue, sound-queue-good, good-sound-queue}
use Rattle.peer_session.specs.declared.TerminalHandoff.{TerminalHandoff}
use Rattle.peer_session.specs.declared.SessionState.{SessionState}
use Rattle.peer_session.specs.View.{Held, held, encode, handoff_of, handoff_length, inbox_of, fixed_of, reject_of, state_of, Exact}
use Rattle.peer_session.specs.Sound.{sound_acks, sound_sizes, sound_of, Full}
use Rattle.peer_session.proofs.Held.{outbox_cong, inbox_cong, fixed_cong, state_cong, agree}

-- ---- an exact session settles what its view asks for

handed-size : (h : TerminalHandoff) → length h.body ≡ 4096 → handoff_length h ≤ 4096 → handoff_length h ≡ handoff_size (handoff_of h)
handed-size h full few = go h.present few
  where
    go : (b : Bool) → (if b then h.len else 0) ≤ 4096
        → (if b then h.len else 0)
        ≡ handoff_size (if b then some (record { id = h.id; number = h.number; body = take h.len h.body; sent = h.sent; acknowledged = h.acknowledged }) else none)
    go true e = sym (length-take-le h.len h.body (omega arith))
    go false e = refl

module _ (s : SessionState) (o q : Bytes) (h : Exact s (length o) (length q)) where
  pub exact-held : held s ≡ encode (state_of s o q)
  unfolding encode
  exact-held =
      agree
      (record {
        next = refl;
        unackeds = exact-count s.outbox o h.outbox;
        unacked = exact-records s.outbox o h.outbox;
        remote = refl;
        released = refl;
        queues = sym (frames-length s.queue q h.queued);
        queue = sym (frames-records s.queue q h.queued);
        waits = sym (exact-length s.waiting h.rest.waiting);
        waiting = refl;
        retries = sym (exact-length s.retry h.rest.retry);
        retry = refl;
        clock = refl;
        stage = refl;
        handed = handed-size s.handoff h.rest.handoff h.rest.handed;
        policy = refl;
        rejects = sym (length-take-le s.reject.len s.reject.bytes (omega (arith, h.rest)));
        reject = refl;
      })

-- ---- what settles a state is viewed as it, with stores that begin with its bodies

pub held-view : (t : R.State) (r : SessionState) (o q x y : Bytes) → held r ≡ encode t → o ≡ packed body_of t.outbox.unacked ++ x → q ≡ packed frame_body t.inbox.queue ++ y
    → state_of r o q ≡ t
unfolding encode frames_of
held-view t r o q x y e eo eq =
    let us : unacked_of r.outbox o ≡ t.outbox.unacked = unacked_of_view r.outbox o t.outbox.unacked x (ap (λ (z : Held). z.unacked) e) eo in
    let fs : frames_of r.queue q ≡ t.inbox.queue =
    ap (λ (l : List Queued). cut len_q frame l q) (ap (λ (z : Held). z.queue) e)
    ∙ ap (λ (l : Bytes). cut len_q frame (map record_q t.inbox.queue) l) eq
    ∙ cut-packed pack_q t.inbox.queue y in
    state_cong (outbox_cong (ap (λ (z : Held). z.next) e) us)
    (inbox_cong (ap (λ (z : Held). z.remote) e) (ap (λ (z : Held). z.released) e) fs (ap (λ (z : Held). z.waiting) e) (ap (λ (z : Held). z.retry) e))
    (ap (λ (z : Held). z.clock) e) (ap (λ (z : Held). z.stage) e) (fixed_cong (ap (λ (z : Held). z.policy) e) (ap (λ (z : Held). z.reject) e))

-- ---- a sound session has a sound view, and is exact

pub record Good (s : SessionState) (o q : Bytes) : Type 0 where
  pub sound : Sound (state_of s o q)
  pub exact : Exact s (length o) (length q)

module _ (s : SessionState) (o q : Bytes) where
  abbrev x : R.Fixed
  x = fixed_of s

  acks-good : sound_acks s.waiting s.retry s.queue.count s.remote ≡ true → Full s → GoodQueue x s.remote s.queue q
      → In.Good x (inbox_of (frames_of s.queue q) s) × ExactNumbers s.waiting × ExactNumbers s.retry
  unfolding sound_acks
  acks-good e full g =
      let a = and_parts (leb s.waiting.count 512) _ e in
      let b = and_parts (leb s.queue.count (512 - s.waiting.count)) _ a.1 in
      let c = and_parts (leb s.retry.count 512) _ b.1 in
      let d = and_parts (rising itself 0 (in_use s.waiting)) _ c.1 in
      let f = and_parts (all (at_most s.remote) (in_use s.waiting)) _ d.1 in
      let wc : s.waiting.count ≤ 512 = leb-true _ _ a.0 in
      let wq : s.queue.count ≤ 512 - s.waiting.count = leb-true _ _ b.0 in
      let rc : s.retry.count ≤ 512 = leb-true _ _ c.0 in
      let ew : ExactNumbers s.waiting = record { full = full.waiting; few = wc } in
      let er : ExactNumbers s.retry = record { full = full.retry; few = rc } in (
        record {
          last = g.last;
          order = g.order;
          frames = g.frames;
          count = g.count;
          bytes = g.bytes;
          acks = d.0;
          behind = f.0;
          room = omega (arith, exact-length s.waiting ew, frames-length s.queue q g.exact);
          retries = f.1;
          few = omega (arith, exact-length s.retry er);
        },
        ew,
        er,
      )

  pub sound-good : sound_of s ≡ true → Full s → 65536 ≤ length o → 32768 ≤ length q → Good s o q
  unfolding sound_of sound_sizes sound_fixed
  sound-good e full lo lq =
      let a = and_parts (sound_outbox_of s.outbox) _ e in
      let b = and_parts (sound_queue s.policy s.remote s.queue) _ a.1 in
      let c = and_parts (sound_acks s.waiting s.retry s.queue.count s.remote) _ b.1 in
      let d = and_parts (leb s.stage.disposition 4) _ c.1 in
      let f = and_parts (leb (handoff_length s.handoff) 4096) _ d.1 in
      let g = and_parts (leb 1 s.reject.len) _ f.1 in
      let ob = sound-outbox-good s.outbox o a.0 full.unacked lo in
      let qu : GoodQueue x s.remote s.queue q = sound-queue-good x s.remote s.queue q b.0 full.queue lq in
      let ac = acks-good c.0 full qu in
      let hl : handoff_length s.handoff ≤ 4096 = leb-true _ _ f.0 in
      let r1 : 1 ≤ s.reject.len = leb-true _ _ g.0 in
      let r2 : s.reject.len ≤ 64 = leb-true _ _ g.1 in
      let lr : length (reject_of s.reject) ≡ s.reject.len = length-take-le s.reject.len s.reject.bytes (omega (arith, full.reject)) in
      let b1 : 1 ≤ length (reject_of s.reject) = omega arith in
      let b2 : length (reject_of s.reject) ≤ 64 = omega arith in
      record {
        sound = (
          ob.0,
          ac.0,
          record { code = leb-true _ _ d.0; size = omega (arith, handed-size s.handoff full.handoff hl) },
          true_every (good_policy s.policy ∷ good_reject (reject_of s.reject) ∷ []) (
            qu.policy,
            (true_every (leb 1 (length (reject_of s.reject)) ∷ leb (length (reject_of s.reject)) 64 ∷ []) (le-leb _ _ b1, (le-leb _ _ b2, tt)), tt),
          ),
        );
        exact =
            record {
              outbox = ob.1;
              queued = qu.exact;
              rest = record { waiting = ac.1; retry = ac.2; handoff = full.handoff; handed = hl; reject = full.reject; rejects = r2 };
            };
      }

  -- the other way round
  pub good-sound : Good s o q → sound_of s ≡ true
  unfolding sound_of sound_acks sound_sizes sound_fixed
  good-sound g =
      let t = g.sound in
      let i : In.Good x (inbox_of (frames_of s.queue q) s) = t.1 in
      let e : Exact s (length o) (length q) = g.exact in
      let p = every_true (good_policy s.policy ∷ good_reject (reject_of s.reject) ∷ []) t.3 in
      let j = every_true (leb 1 (length (reject_of s.reject)) ∷ leb (length (reject_of s.reject)) 64 ∷ []) p.1.0 in
      let lr : length (reject_of s.reject) ≡ s.reject.len = length-take-le s.reject.len s.reject.bytes (omega (arith, e.rest)) in
      let j1 : 1 ≤ s.reject.len = omega (arith, leb-true 1 (length (reject_of s.reject)) j.0) in
      let wc : s.waiting.count ≤ 512 = e.rest.waiting.few in
      let wq : s.queue.count ≤ 512 - s.waiting.count =
      omega (arith, i.room, exact-length s.waiting e.rest.waiting, frames-length s.queue q e.queued) in
      and_both (sound_outbox_of s.outbox) _ (good-sound-outbox s.outbox o e.outbox t.0)
      (and_both (sound_queue s.policy s.remote s.queue) _
      (good-sound-queue x s.remote s.queue q
      (record { last = i.last; order = i.order; frames = i.frames; count = i.count; bytes = i.bytes; exact = e.queued; policy = p.0 }))
      (and_both (sound_acks s.waiting s.retry s.queue.count s.remote) _
      (and_both (leb s.waiting.count 512) _ (le-leb _ _ wc)
      (and_both (leb s.queue.count (512 - s.waiting.count)) _ (le-leb _ _ wq)
      (and_both (leb s.retry.count 512) _ (le-leb _ _ e.rest.retry.few)
      (and_both (rising itself 0 (in_use s.waiting)) _ i.acks (and_both (all (at_most s.remote) (in_use s.waiting)) _ i.behind i.retries)))))
      (and_both (leb s.stage.disposition 4) _ (le-leb _ _ t.2.code)
      (and_both (leb (handoff_length s.handoff) 4096) _ (le-leb _ _ e.rest.handed)
      (and_both (leb 1 s.reject.len) _ (le-leb _ _ j1) (le-leb _ _ e.rest.rejects))))))

-- ---- the parts of a sound session, for what a call asks of them

pub record Parts (s : SessionState) : Type 0 where
  pub outbox : sound_outbox_of s.outbox ≡ true
  pub unacked : (o : Bytes) → 65536 ≤ length o → ExactOutbox s.outbox (length o)
  pub queued : (q : Bytes) → 32768 ≤ length q → ExactQueue s.queue (length q)
  pub waiting : ExactNumbers s.waiting
  pub retry : ExactNumbers s.retry
  pub first : 1 ≤ s.outbox.next
  pub end : s.outbox.next ≤ 4294967296

pub parts : (s : SessionState) → sound_of s ≡ true → Full s → Parts s
unfolding sound_of
parts s e full =
    let o : Bytes = replicate 65536 0 in
    let q : Bytes = replicate 32768 0 in
    let lo : length o ≡ 65536 = length-replicate {A = ℕ} 65536 0 in
    let lq : length q ≡ 32768 = length-replicate {A = ℕ} 32768 0 in
    let g : Good s o q = sound-good s o q e full (omega arith) (omega arith) in
    let a = and_parts (sound_outbox_of s.outbox) _ e in
    let b = and_parts (sound_queue s.policy s.remote s.queue) _ a.1 in
    record {
      outbox = a.0;
      unacked = λ x h. (sound-outbox-good s.outbox x a.0 full.unacked h).1;
      queued = λ x h. (sound-queue-good (fixed_of s) s.remote s.queue x b.0 full.queue h).exact;
      waiting = g.exact.rest.waiting;
      retry = g.exact.rest.retry;
      first = g.sound.0.one;
      end = g.sound.0.end;
    }
