-- A message that joins an outbox, or a refusal that leaves it. Assumes nothing.
use mathlib.Core.Path.{◌≡◌, refl, sym, ap, ◌∙◌}
use mathlib.Core.List.{List, [], ◌∷◌, ◌++◌}
use Prim.Native.Nat.{ℕ, ◌+◌, ◌≤◌, ◌<◌}
use native.Mathlib.Omega.{arith}
use lib.ListN.{length}
use lib.Seq.{length-take-le}
use lib.Dec.{ltb}
use borrow.Author.Tests.{lt-ltb, le-ltb}
use Rattle.rules.specs.declared.Refusal.{Refusal}
use Rattle.rules.specs.declared.Refusal.TheVariants.{NumbersExhausted, UnackedFull}
use Rattle.rules.specs.Lists.{Bytes, total, packed}
use Rattle.rules.specs.State as R
use Rattle.rules.specs.State.{body_of, size_of, outbox_is, disposition_is}
use Rattle.rules.specs.Clock.{raised}
use Rattle.rules.specs.Progress.{stays, halts}
use Rattle.rules.specs.Sending.{fresh, numbered, allocate}
use Rattle.rules.specs.Buffers.{repacked}
use Rattle.rules.proofs.Buffers.{repacked-same}
use Rattle.std.specs.Prelude.{Ok, Err}
use Rattle.std.proofs.lemmas.Bool.{or_right}
use Rattle.outbox.specs.declared.Outbox.{Outbox}
use Rattle.outbox.specs.View.{end_u, unacked_of, outbox_of, ExactOutbox}
use Rattle.outbox.specs.Steps.{Appended}
use Rattle.outbox.proofs.View.{packed-unacked, exact-count, exact-total}
use Rattle.peer_session.specs.Allocates.{Allocates}

-- ---- the rule, test by test

module _ (b : Bytes) (d : ℕ) (t : R.State) where
  pub allocate_spent : 4294967295 < t.outbox.next → allocate b d t ≡ halts NumbersExhausted t
  unfolding allocate
  allocate_spent h = rw (lt-ltb 4294967295 t.outbox.next h)

  module _ (l : t.outbox.next ≤ 4294967295) where
    pub allocate-many : 256 < length t.outbox.unacked + 1 → allocate b d t ≡ halts UnackedFull t
    unfolding allocate
    allocate-many h = rw (le-ltb 4294967295 t.outbox.next l, lt-ltb 256 (length t.outbox.unacked + 1) h)

    pub allocate-long : 65536 < total size_of t.outbox.unacked + length b → allocate b d t ≡ halts UnackedFull t
    unfolding allocate
    allocate-long h =
        rw (
          le-ltb 4294967295 t.outbox.next l,
          or_right (ltb 256 (length t.outbox.unacked + 1)) (ltb 65536 (total size_of t.outbox.unacked + length b)) (lt-ltb 65536 (total size_of t.outbox.unacked + length b) h),
        )

    pub allocate-goes : length t.outbox.unacked + 1 ≤ 256 → total size_of t.outbox.unacked + length b ≤ 65536
        → allocate b d t ≡ stays (raised (disposition_is d (numbered b t)))
    unfolding allocate
    allocate-goes h k =
        rw (le-ltb 4294967295 t.outbox.next l, le-ltb 256 (length t.outbox.unacked + 1) h, le-ltb 65536 (total size_of t.outbox.unacked + length b) k)

-- ---- the code

module _ (b : Bytes) (x : Outbox) (o : Bytes) (exact : ExactOutbox x (length o)) where
  -- a refusal, whichever test gave it
  refuses : (y : Refusal) → ((t : R.State) (d : ℕ) → t.outbox ≡ outbox_of x o → allocate b d t ≡ halts y t) → Allocates b x o (Err y) o
  refuses y f =
      record {
        does = f;
        exact = exact;
        bytes = sym (repacked-same (end_u x) (packed body_of (unacked_of x o)) o (packed-unacked x o) (ap length (packed-unacked x o) ∙ length-take-le (end_u x) o (omega (arith, exact))));
        size = refl;
        kept = λ z e. refl;
      }

  pub spent : 4294967295 < x.next → Allocates b x o (Err NumbersExhausted) o
  spent h = refuses NumbersExhausted (λ t d e. allocate_spent b d t (rw e h))

  module _ (l : x.next ≤ 4294967295) where
    pub many : 256 ≤ x.count → Allocates b x o (Err UnackedFull) o
    many h = refuses UnackedFull (λ t d e. allocate-many b d t (rw e l) (rw e (omega (arith, exact-count x o exact))))

    pub long : 65536 < end_u x + length b → Allocates b x o (Err UnackedFull) o
    long h = refuses UnackedFull (λ t d e. allocate-long b d t (rw e l) (rw e (omega (arith, exact-total x o exact))))

    pub joins : x.count < 256 → end_u x + length b ≤ 65536 → (r : Outbox) (o' : Bytes) → Appended x o b r o' → Allocates b x o (Ok r) o'
    unfolding numbered
    joins few room r o' a =
        let us : unacked_of r o' ≡ unacked_of x o ++ (fresh x.next b ∷ []) = a.repacked.unacked in
        record {
          does = λ t d e.
              allocate-goes b d t (rw e l) (rw e (omega (arith, exact-count x o exact))) (rw e (omega (arith, exact-total x o exact)))
              ∙ ap (λ (y : R.Outbox). stays (raised (disposition_is d (outbox_is y t))))
              (ap (λ (y : R.Outbox). record { next = y.next + 1; unacked = y.unacked ++ (fresh y.next b ∷ []) }) e
              ∙ ap (λ (n : ℕ). record { next = n; unacked = unacked_of x o ++ (fresh x.next b ∷ []) }) (sym a.next)
              ∙ ap (λ (ms : List R.Unacked). record { next = r.next; unacked = ms }) (sym us));
          exact = a.repacked.exact;
          bytes = a.repacked.bytes ∙ ap (λ (ms : List R.Unacked). repacked (end_u x) (packed body_of ms) o) (sym us);
          size = a.repacked.size;
          kept = λ y e. cc;
        }
