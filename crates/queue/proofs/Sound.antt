-- A sound queue has sound frames, and the other way. Assumes nothing.
use mathlib.Core.Path.{◌≡◌, refl}
use mathlib.Core.Bool.{true}
use mathlib.Core.List.{List, [], ◌∷◌}
use Prim.Native.Nat.{ℕ, ◌+◌, ◌-◌, ◌≤◌, ◌<◌}
use native.Mathlib.Omega.{arith}
use lib.ListN.{length, take, drop, length-drop}
use lib.Seq.{length-take-le}
use lib.Dec.{leb, ltb}
use borrow.Author.Tests.{lt-ltb, le-leb, ltb-true, leb-true}
use Rattle.std.proofs.lemmas.Bool.{and_parts}
use Rattle.stores.specs.Packed.{cut}
use Rattle.stores.specs.Admitted.{admitted}
use Rattle.rules.specs.declared.Policy.{Policy}
use Rattle.rules.specs.Lists.{Bytes, all, total, rising}
use Rattle.rules.specs.Limits.{last_remote, session_reject, max_queued_messages, max_queued_bytes, max_peer_body}
use Rattle.rules.specs.State as R
use Rattle.rules.specs.State.{frame_number, frame_size}
use Rattle.rules.specs.Start.{good_policy}
use Rattle.rules.specs.Sound.{sound_frame}
use Rattle.rules.proofs.Lists.{and_left, and_right, and_both, every_true, true_every}
use Rattle.queue.specs.declared.Queued.{Queued}
use Rattle.queue.specs.declared.Queue.{Queue}
use Rattle.queue.specs.View.{num_q, len_q, frame, used_q, frames_of, end_q, ExactQueue}
use Rattle.queue.specs.Sound.{admits_queued, sound_queued, sound_queue}
use Rattle.queue.proofs.View.{frames-length, frames-total}

-- ---- one record

pub record Fits (p : Policy) (last sum : ℕ) (u : Queued) : Type 0 where
  pub above : last < u.number
  pub below : u.number ≤ 18446744073709551614
  pub kind : u.kind ≤ 2
  pub size : u.len ≤ p.body
  pub room : u.len ≤ p.bytes - sum

pub admits-fits : (p : Policy) (last sum : ℕ) (u : Queued) → admits_queued p last sum u ≡ true → Fits p last sum u
admits-fits p last sum u e =
    let a = and_parts (ltb last u.number) _ e in
    let b = and_parts (leb u.number last_remote) _ a.1 in
    let c = and_parts (leb u.kind session_reject) _ b.1 in
    let d = and_parts (leb u.len p.body) _ c.1 in
    record {
      above = ltb-true _ _ a.0;
      below = leb-true _ _ b.0;
      kind = leb-true _ _ c.0;
      size = leb-true _ _ d.0;
      room = leb-true _ _ d.1;
    }

fits-admits : (p : Policy) (last sum : ℕ) (u : Queued) → Fits p last sum u → admits_queued p last sum u ≡ true
fits-admits p last sum u f =
    and_both (ltb last u.number) _ (lt-ltb _ _ f.above)
    (and_both (leb u.number last_remote) _ (le-leb _ _ f.below)
    (and_both (leb u.kind session_reject) _ (le-leb _ _ f.kind) (and_both (leb u.len p.body) _ (le-leb _ _ f.size) (le-leb _ _ f.room))))

-- ---- all of them

-- what the rule book asks of frames, of the sum of their sizes too
record Held (x : R.Fixed) (last sum : ℕ) (us : List Queued) (s : Bytes) : Type 0 where
  order : rising frame_number last (cut len_q frame us s) ≡ true
  frames : all (sound_frame x) (cut len_q frame us s) ≡ true
  bytes : sum + total len_q us ≤ x.policy.bytes

admitted-held : (x : R.Fixed) (last sum : ℕ) (us : List Queued) (s : Bytes) → sum ≤ x.policy.bytes → x.policy.bytes ≤ sum + length s
    → admitted num_q len_q (admits_queued x.policy) last sum us ≡ true → Held x last sum us s
unfolding admitted rising all cut total
admitted-held x last sum [] s h k e = record { order = refl; frames = refl; bytes = omega arith }
admitted-held x last sum (u ∷ us) s h k e =
    let t = and_parts (admits_queued x.policy last sum u) _ e in
    let f : Fits x.policy last sum u = admits-fits x.policy last sum u t.0 in
    let lt : length (take u.len s) ≡ u.len = length-take-le u.len s (omega (arith, f.room)) in
    let ld : length (drop u.len s) ≡ length s - u.len = length-drop u.len s in
    let r = admitted-held x u.number (sum + u.len) us (drop u.len s) (omega (arith, f.room)) (omega (arith, f.room)) t.1 in
    let sz : length (take u.len s) ≤ x.policy.body = omega (arith, f.size) in
    let one : sound_frame x (frame u (take u.len s)) ≡ true =
    true_every (leb u.number last_remote ∷ leb u.kind session_reject ∷ leb (length (take u.len s)) x.policy.body ∷ [])
    (le-leb _ _ f.below, (le-leb _ _ f.kind, (le-leb _ _ sz, tt))) in
    record {
      order = and_both (ltb last u.number) _ (lt-ltb _ _ f.above) r.order;
      frames = and_both (sound_frame x (frame u (take u.len s))) _ one r.frames;
      bytes = omega (arith, r.bytes);
    }

held-admitted : (x : R.Fixed) (last sum : ℕ) (us : List Queued) (s : Bytes) → total len_q us ≤ length s → Held x last sum us s
    → admitted num_q len_q (admits_queued x.policy) last sum us ≡ true
unfolding admitted rising all cut total
held-admitted x last sum [] s k e = refl
held-admitted x last sum (u ∷ us) s k e =
    let lt : length (take u.len s) ≡ u.len = length-take-le u.len s (omega arith) in
    let ld : length (drop u.len s) ≡ length s - u.len = length-drop u.len s in
    let one : sound_frame x (frame u (take u.len s)) ≡ true = and_left (sound_frame x (frame u (take u.len s))) _ e.frames in
    let t = every_true (leb u.number last_remote ∷ leb u.kind session_reject ∷ leb (length (take u.len s)) x.policy.body ∷ []) one in
    let size : length (take u.len s) ≤ x.policy.body = leb-true _ _ t.1.1.0 in
    let fits : Fits x.policy last sum u =
    record {
      above = ltb-true _ _ (and_left (ltb last u.number) _ e.order);
      below = leb-true _ _ t.0;
      kind = leb-true _ _ t.1.0;
      size = omega arith;
      room = omega (arith, e.bytes);
    } in
    and_both (admits_queued x.policy last sum u) _ (fits-admits x.policy last sum u fits)
    (held-admitted x u.number (sum + u.len) us (drop u.len s) (omega arith)
    (record {
      order = and_right (ltb last u.number) _ e.order;
      frames = and_right (sound_frame x (frame u (take u.len s))) _ e.frames;
      bytes = omega (arith, e.bytes);
    }))

-- ---- the queue

-- the rule book's tests of the queue, of the policy and of remote, and what makes the view exact
pub record GoodQueue (x : R.Fixed) (remote : ℕ) (q : Queue) (o : Bytes) : Type 0 where
  pub last : remote ≤ 18446744073709551614
  pub order : rising frame_number remote (frames_of q o) ≡ true
  pub frames : all (sound_frame x) (frames_of q o) ≡ true
  pub count : length (frames_of q o) ≤ x.policy.messages
  pub bytes : total frame_size (frames_of q o) ≤ x.policy.bytes
  pub exact : ExactQueue q (length o)
  pub policy : good_policy x.policy ≡ true

module _ (x : R.Fixed) (remote : ℕ) (q : Queue) (o : Bytes) where
  pub sound-queue-good : sound_queue x.policy remote q ≡ true → length q.records ≡ 256 → 32768 ≤ length o → GoodQueue x remote q o
  unfolding sound_queue sound_queued frames_of
  sound-queue-good e full room =
      let a = and_parts (leb x.policy.messages max_queued_messages) _ e in
      let b = and_parts (leb x.policy.bytes max_queued_bytes) _ a.1 in
      let c = and_parts (leb x.policy.body max_peer_body) _ b.1 in
      let d = and_parts (leb q.count x.policy.messages) _ c.1 in
      let f = and_parts (leb remote last_remote) _ d.1 in
      let few : x.policy.messages ≤ 256 = leb-true _ _ a.0 in
      let small : x.policy.bytes ≤ 32768 = leb-true _ _ b.0 in
      let count : q.count ≤ x.policy.messages = leb-true _ _ d.0 in
      let h : Held x remote 0 (used_q q) o = admitted-held x remote 0 (used_q q) o (omega arith) (omega arith) f.1 in
      let exact : ExactQueue q (length o) = record { full = full; few = omega arith; small = omega (arith, h.bytes); room = room } in
      record {
        last = leb-true _ _ f.0;
        order = h.order;
        frames = h.frames;
        count = omega (arith, frames-length q o exact);
        bytes = omega (arith, frames-total q o exact, h.bytes);
        exact = exact;
        policy =
            true_every (leb x.policy.messages max_queued_messages ∷ leb x.policy.bytes max_queued_bytes ∷ leb x.policy.body max_peer_body ∷ [])
            (a.0, (b.0, (c.0, tt)));
      }

  pub good-sound-queue : GoodQueue x remote q o → sound_queue x.policy remote q ≡ true
  unfolding sound_queue sound_queued frames_of
  good-sound-queue g =
      let t = every_true (leb x.policy.messages max_queued_messages ∷ leb x.policy.bytes max_queued_bytes ∷ leb x.policy.body max_peer_body ∷ []) g.policy in
      let count : q.count ≤ x.policy.messages = omega (arith, frames-length q o g.exact, g.count) in
      let bytes : 0 + end_q q ≤ x.policy.bytes = omega (arith, frames-total q o g.exact, g.bytes) in
      and_both (leb x.policy.messages max_queued_messages) _ t.0
      (and_both (leb x.policy.bytes max_queued_bytes) _ t.1.0
      (and_both (leb x.policy.body max_peer_body) _ t.1.1.0
      (and_both (leb q.count x.policy.messages) _ (le-leb _ _ count)
      (and_both (leb remote last_remote) _ (le-leb _ _ g.last)
      (held-admitted x remote 0 (used_q q) o (omega (arith, g.exact.small, g.exact.room)) (record { order = g.order; frames = g.frames; bytes = bytes }))))))
