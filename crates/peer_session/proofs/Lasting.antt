-- What settles a sound state is a sound session. Assumes nothing.
use mathlib.Core.Path.{◌≡◌, refl, sym, ap, ◌∙◌, subst}
use mathlib.Core.Bool.{Bool, true, ◌&&◌}
use mathlib.Core.List.{[], ◌∷◌, ◌++◌}
use Prim.Native.Nat.{ℕ, ◌+◌, ◌-◌, ◌≤◌}
use native.Mathlib.Omega.{arith}
use lib.ListN.{length, replicate, length-append, length-replicate}
use lib.Dec.{leb}
use borrow.Author.Tests.{leb-true}
use Rattle.stores.specs.Admitted.{admitted}
use Rattle.stores.proofs.Packs as Packs
use Rattle.rules.specs.Lists.{Bytes, all, total, packed, rising, itself}
use Rattle.rules.specs.State as R
use Rattle.rules.specs.State.{body_of, size_of, frame_body, frame_size}
use Rattle.rules.specs.Start.{good_policy, good_reject}
use Rattle.rules.specs.Sound.{ascending, at_most, sound, sound_fixed}
use Rattle.rules.proofs.Lists.{every_true, length-packed}
use Rattle.rules.proofs.Sound.{Sound, sound-parts}
use Rattle.outbox.specs.View.{num_u, len_u, end_u}
use Rattle.outbox.specs.Sound.{admits_unacked, sound_unacked, sound_outbox_of}
use Rattle.outbox.proofs.View.{pack_u}
use Rattle.queue.specs.View.{num_q, len_q, end_q}
use Rattle.queue.specs.Sound.{admits_queued, sound_queued, sound_queue}
use Rattle.queue.proofs.View.{pack_q}
use Rattle.peer_session.specs.declared.SessionState.{SessionState}
use Rattle.peer_session.specs.View.{Held, held, encode, state_of, Exact}
use Rattle.peer_session.specs.Sound.{sound_acks, sound_sizes, sound_of, Full}
use Rattle.peer_session.proofs.View.{held-view, good-sound}

-- ---- soundness is about what a session settles

sound_held : Held → Bool
sound_held h =
    (leb h.unackeds 256 && (leb 1 h.next && (leb h.next 4294967296 && admitted num_u len_u (admits_unacked h.next) 0 0 h.unacked)))
    && ((leb h.policy.messages 256
    && (leb h.policy.bytes 32768
    && (leb h.policy.body 16384
    && (leb h.queues h.policy.messages && (leb h.remote 18446744073709551614 && admitted num_q len_q (admits_queued h.policy) h.remote 0 h.queue)))))
    && ((leb h.waits 512
    && (leb h.queues (512 - h.waits)
    && (leb h.retries 512 && (rising itself 0 h.waiting && (all (at_most h.remote) h.waiting && ascending h.retry)))))
    && (leb h.stage.disposition 4 && (leb h.handoff_size 4096 && (leb 1 h.reject_size && leb h.reject_size 64)))))

is_held : (s : SessionState) → sound_of s ≡ sound_held (held s)
unfolding sound_held sound_of sound_outbox_of sound_unacked sound_queue sound_queued sound_acks sound_sizes
is_held s = refl

pub same-sound : (s r : SessionState) → held r ≡ held s → sound_of r ≡ sound_of s
same-sound s r e = is_held r ∙ ap sound_held e ∙ sym (is_held s)

-- ---- a session that settles a sound state

module _ (t : R.State) (r : SessionState) (full : Full r) (e : held r ≡ encode t) (h : sound t ≡ true) where
  abbrev o : Bytes
  o = packed body_of t.outbox.unacked ++ replicate 65536 0

  abbrev q : Bytes
  q = packed frame_body t.inbox.queue ++ replicate 32768 0

  is_state : state_of r o q ≡ t
  is_state = held-view t r o q (replicate 65536 0) (replicate 32768 0) e refl refl

  facts : Sound t
  facts = sound-parts t h

  exact : Exact r (length o) (length q)
  unfolding encode sound_fixed
  exact =
      let lo : length {A = ℕ} (replicate 65536 0) ≡ 65536 = length-replicate {A = ℕ} 65536 0 in
      let lq : length {A = ℕ} (replicate 32768 0) ≡ 32768 = length-replicate {A = ℕ} 32768 0 in
      let ao : length o ≡ length (packed body_of t.outbox.unacked) + length {A = ℕ} (replicate 65536 0) = length-append (packed body_of t.outbox.unacked) (replicate 65536 0) in
      let aq : length q ≡ length (packed frame_body t.inbox.queue) + length {A = ℕ} (replicate 32768 0) = length-append (packed frame_body t.inbox.queue) (replicate 32768 0) in
      let p = every_true (good_policy t.fixed.policy ∷ good_reject t.fixed.reject ∷ []) facts.3 in
      let pp = every_true (leb t.fixed.policy.messages 256 ∷ leb t.fixed.policy.bytes 32768 ∷ leb t.fixed.policy.body 16384 ∷ []) p.0 in
      let j = every_true (leb 1 (length t.fixed.reject) ∷ leb (length t.fixed.reject) 64 ∷ []) p.1.0 in
      let pm : t.fixed.policy.messages ≤ 256 = leb-true _ _ pp.0 in
      let pb : t.fixed.policy.bytes ≤ 32768 = leb-true _ _ pp.1.0 in
      let j64 : length t.fixed.reject ≤ 64 = leb-true _ _ j.1.0 in
      let cu : r.outbox.count ≡ length t.outbox.unacked = ap (λ (z : Held). z.unackeds) e in
      let cq : r.queue.count ≡ length t.inbox.queue = ap (λ (z : Held). z.queues) e in
      let cw : r.waiting.count ≡ length t.inbox.waiting = ap (λ (z : Held). z.waits) e in
      let cr : r.retry.count ≡ length t.inbox.retry = ap (λ (z : Held). z.retries) e in
      let ch : _ ≡ _ = ap (λ (z : Held). z.handoff_size) e in
      let cj : r.reject.len ≡ length t.fixed.reject = ap (λ (z : Held). z.reject_size) e in
      let eu : end_u r.outbox ≡ length (packed body_of t.outbox.unacked) =
      ap (λ (z : Held). total len_u z.unacked) e ∙ Packs.length-packed pack_u t.outbox.unacked in
      let eq : end_q r.queue ≡ length (packed frame_body t.inbox.queue) =
      ap (λ (z : Held). total len_q z.queue) e ∙ Packs.length-packed pack_q t.inbox.queue in
      let tu : length (packed body_of t.outbox.unacked) ≡ total size_of t.outbox.unacked = length-packed body_of t.outbox.unacked in
      let tq : length (packed frame_body t.inbox.queue) ≡ total frame_size t.inbox.queue = length-packed frame_body t.inbox.queue in
      record {
        outbox = record { full = full.unacked; few = omega (arith, facts.0.few); small = omega (arith, facts.0.small); room = omega arith };
        queued = record { full = full.queue; few = omega (arith, facts.1.count); small = omega (arith, facts.1.bytes); room = omega arith };
        rest =
            record {
              waiting = record { full = full.waiting; few = omega (arith, facts.1.room) };
              retry = record { full = full.retry; few = omega (arith, facts.1.few) };
              handoff = full.handoff;
              handed = omega (arith, ch, facts.2.size);
              reject = full.reject;
              rejects = omega arith;
            };
      }

  pub settles-sound : sound_of r ≡ true
  settles-sound = good-sound r o q (record { sound = subst Sound (sym is_state) facts; exact = exact })
