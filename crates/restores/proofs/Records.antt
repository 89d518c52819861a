-- The record is taken. Assumes nothing.
use mathlib.Core.Path.{◌≡◌, refl, sym, ap, ◌∙◌}
use mathlib.Core.List.{List, ◌++◌, map, append_assoc}
use Prim.Native.Nat.{ℕ, ◌+◌, ◌-◌, ◌≤◌, ◌<◌, max}
use native.Mathlib.Omega.{arith}
use native.Mathlib.Nat.{zero-add}
use lib.ListN.{length, take, drop, replicate, length-append, length-replicate}
use lib.Seq.{length-take-le, take_at}
use Rattle.rules.specs.Lists.{Bytes, total, itself, packed}
use Rattle.rules.specs.State.{body_of}
use Rattle.rules.specs.Start.{as_sent, restored}
use Rattle.rules.specs.Buffers.{repacked}
use Rattle.stores.specs.Placed.{placed}
use Rattle.stores.proofs.Laws.{placed-placed}
use Rattle.stores.proofs.Packs.{repacked-grown, repacked_shrunk, length-repacked}
use Rattle.outbox.specs.declared.Outbox.{Outbox}
use Rattle.outbox.specs.View.{len_u, end_u, unacked_of}
use Rattle.outbox.proofs.View.{packed-unacked, unacked-only}
use Rattle.peer_session.specs.declared.SessionState.{SessionState}
use Rattle.peer_session.proofs.Held.{outbox_cong, state_cong}
use Rattle.starts.specs.declared.Reliable.{Reliable}
use Rattle.starts.specs.Started.{messages_of}
use Rattle.starts.specs.Records.{Recorded}
use Rattle.starts.proofs.Messages.{total-records, recorded-unacked, recorded-exact}
use Rattle.restores.specs.Steps.{Taking, Takes}

-- ---- the store

module _ (s b s₁ : Bytes) (n end : ℕ) (size : length b ≡ n) (e₁ : s₁ ≡ placed s 0 b) where
  -- the bodies reach as far as those before, or further
  pub grown : end ≤ n → s₁ ≡ repacked end b s
  unfolding placed
  grown h = e₁ ∙ ap (λ (k : ℕ). b ++ drop k s) (zero-add (length b)) ∙ sym (repacked-grown end b s (omega arith))

  -- less far, and the rest is cleared
  pub shrunk : (s₂ : Bytes) → n < end → end ≤ length s → s₂ ≡ placed s₁ n (replicate (end - n) 0) → s₂ ≡ repacked end b s
  unfolding placed
  shrunk s₂ h m e₂ =
      let z : Bytes = replicate (end - n) 0 in
      let lz : length z ≡ end - n = length-replicate {A = ℕ} (end - n) 0 in
      let at : n ≡ 0 + length b = omega arith in
      let to : 0 + length (b ++ z) ≡ end = zero-add (length (b ++ z)) ∙ length-append b z ∙ omega arith in
      e₂
      ∙ ap (λ (l : Bytes). placed l n z) e₁
      ∙ ap (λ (k : ℕ). placed (placed s 0 b) k z) at
      ∙ placed-placed s 0 b z (omega arith)
      ∙ ap (λ (k : ℕ). (b ++ z) ++ drop k s) to
      ∙ append_assoc b z (drop end s)
      ∙ ap (λ (k : ℕ). b ++ (replicate (end - k) 0 ++ drop end s)) (sym size)
      ∙ sym (repacked_shrunk end b s (omega arith))

-- ---- the session

module _ (x : Reliable) (ns ks : List ℕ) (b : Bytes) (s : SessionState) (o : Bytes) (w : Taking x ns ks b s (length o)) (y : Outbox) (rec : Recorded x.message_number ns ks y)
    (n end : ℕ) (en : n ≡ total itself (take (length ns) ks)) (ee : end ≡ end_u s.outbox) (o' : Bytes) (eo : o' ≡ repacked end (take n b) o) where
  reach : end_u y ≡ n
  reach = ap (total len_u) rec.used ∙ total-records ns ks w.fitting.enough ∙ sym en

  few : n ≤ 65536
  few = omega (arith, en, w.fitting.small)

  enough : n ≤ length b
  enough = omega (arith, en, w.bytes)

  part : length (take n b) ≡ n
  part = length-take-le n b enough

  size : length o' ≡ length o
  size =
      let room : 65536 ≤ length o = w.exact.room in
      ap length eo ∙ length-repacked end (take n b) o (omega (arith, ee, w.exact.small)) (omega (arith, part, few))

  front : take n o' ≡ take n b
  unfolding repacked
  front = ap (take n) eo ∙ take_at (take n b) (replicate (end - length (take n b)) 0 ++ drop (max end (length (take n b))) o) n part

  front-end : take (end_u y) o' ≡ take (end_u y) b
  front-end = ap (λ (k : ℕ). take k o') reach ∙ front ∙ ap (λ (k : ℕ). take k b) (sym reach)

  bodies : unacked_of y o' ≡ map as_sent (messages_of ns ks b)
  bodies =
      unacked-only y o' b (omega (arith, reach, few, size, w.exact.room)) (omega (arith, reach, enough)) front-end
      ∙ recorded-unacked rec b

  whole : packed body_of (unacked_of y o') ≡ take n b
  whole = packed-unacked y o' ∙ ap (λ (k : ℕ). take k o') reach ∙ front

  -- s with the record's outbox, remote number and disposition
  abbrev taken : SessionState
  taken =
      record {
        outbox = y;
        remote = x.remote_number;
        released = s.released;
        queue = s.queue;
        waiting = s.waiting;
        retry = s.retry;
        clock = s.clock;
        stage = record { disposition = x.disposition; setup = s.stage.setup; mode = s.stage.mode; failed = s.stage.failed };
        handoff = s.handoff;
        policy = s.policy;
        reject = s.reject;
      }

  pub takes : Takes x ns ks b s o taken o'
  unfolding restored
  takes =
      record {
        does = λ q. state_cong (outbox_cong (sym rec.next_is) (sym bodies)) refl refl refl refl;
        exact = λ k ex.
            record {
              outbox = recorded-exact rec (length o') w.fitting (omega (arith, size, w.exact.room));
              queued = ex.queued;
              rest = record { waiting = ex.rest.waiting; retry = ex.rest.retry; handoff = ex.rest.handoff; handed = ex.rest.handed; reject = ex.rest.reject; rejects = ex.rest.rejects };
            };
        stored =
            eo ∙ ap (λ (k : ℕ). repacked k (take n b) o) ee
            ∙ ap (λ (z : Bytes). repacked (end_u s.outbox) z o) (sym whole);
        queue = refl;
        handoff = refl;
      }
