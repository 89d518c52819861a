-- Refusal 1: which buffers a call takes, and whether they are long enough. Assumes nothing.
use mathlib.Core.Path.{◌≡◌, refl, sym}
use mathlib.Core.Bool.{Bool, true, false, ◌&&◌, ◌||◌, true≢false}
use Prim.Native.Nat.{ℕ, ◌≤◌, ◌<◌}
use lib.ListN.{length}
use lib.Dec.{ltb}
use borrow.Author.Tests.{lt-ltb, le-ltb, ltb-true, ltb-false}
use Rattle.std.proofs.lemmas.Bool.{or_left, or_right, or_from}
use Rattle.rules.specs.Buffers.{Lent, Takes, short}
use Rattle.rules.proofs.Lists.{both}

-- a buffer of length n that is taken, if b, has at least m
part-long : (b : Bool) (n m : ℕ) → (b ≡ true → m ≤ n) → (b && ltb n m) ≡ false
part-long true n m h = le-ltb n m (h refl)
part-long false n m h = refl

part-short : (b : Bool) (n m : ℕ) → b ≡ true → n < m → (b && ltb n m) ≡ true
part-short b n m e h = rw (e, lt-ltb n m h)

-- a buffer that a call does not take may be of any length
pub not_taken : {A : Type 0} → false ≡ true → A
not_taken e = absurd (true≢false (sym e))

module _ (t : Takes) (l : Lent) where
  abbrev p1 : Bool
  p1 = t.list && ltb (length l.list) 4096

  abbrev p2 : Bool
  p2 = t.delivery && ltb (length l.delivery) 49152

  abbrev p3 : Bool
  p3 = t.outbound && ltb (length l.outbound) 65536

  abbrev p4 : Bool
  p4 = t.queue && ltb (length l.queue) 32768

  pub short-outbound : t.outbound ≡ true → length l.outbound < 65536 → short t l ≡ true
  unfolding short
  short-outbound e h = or_left (p1 || p2 || p3) p4 (or_right (p1 || p2) p3 (part-short t.outbound _ _ e h))

  pub short-queue : t.queue ≡ true → length l.queue < 32768 → short t l ≡ true
  unfolding short
  short-queue e h = or_right (p1 || p2 || p3) p4 (part-short t.queue _ _ e h)

  -- the other way round
  module _ (long : short t l ≡ false) where
    pub long-outbound : t.outbound ≡ true → 65536 ≤ length l.outbound
    long-outbound e = go (ltb (length l.outbound) 65536) refl
      where
        go : (b : Bool) → ltb (length l.outbound) 65536 ≡ b → 65536 ≤ length l.outbound
        go true h = absurd (both long (short-outbound e (ltb-true _ _ h)))
        go false h = ltb-false _ _ h

    pub long-queue : t.queue ≡ true → 32768 ≤ length l.queue
    long-queue e = go (ltb (length l.queue) 32768) refl
      where
        go : (b : Bool) → ltb (length l.queue) 32768 ≡ b → 32768 ≤ length l.queue
        go true h = absurd (both long (short-queue e (ltb-true _ _ h)))
        go false h = ltb-false _ _ h

  pub long-enough : (t.list ≡ true → 4096 ≤ length l.list) → (t.delivery ≡ true → 49152 ≤ length l.delivery)
      → (t.outbound ≡ true → 65536 ≤ length l.outbound) → (t.queue ≡ true → 32768 ≤ length l.queue) → short t l ≡ false
  unfolding short
  long-enough a b c d =
      or_from (p1 || p2 || p3) p4
      (or_from (p1 || p2) p3 (or_from p1 p2 (part-long t.list _ _ a) (part-long t.delivery _ _ b)) (part-long t.outbound _ _ c))
      (part-long t.queue _ _ d)
