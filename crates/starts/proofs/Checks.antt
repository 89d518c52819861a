-- Refusals 1, 2 and 3 of a start, test by test. Assumes nothing.
use Rattle.std.specs.Prelude.{if◌then◌else◌, Result, Ok, Err}
use mathlib.Core.Path.{◌≡◌, refl, sym, ◌∙◌}
use mathlib.Core.Bool.{Bool, true, false, ◌&&◌}
use mathlib.Core.List.{List, [], ◌∷◌}
use Prim.Native.Nat.{ℕ, zero, suc, ◌≤◌, ◌<◌}
use native.Mathlib.Omega.{arith}
use lib.ListN.{length, take, get_or}
use lib.Dec.{leb, ltb}
use borrow.Author.Tests.{le-leb, lt-leb, lt-ltb, le-ltb, ltb-true, ltb-false, leb-true}
use Rattle.rules.specs.declared.Policy.{Policy}
use Rattle.rules.specs.declared.Refusal.{Refusal}
use Rattle.rules.specs.declared.Refusal.TheVariants.{UnknownCode, BadRecord}
use Rattle.rules.specs.Lists.{Bytes, every, total, itself, all, rising}
use Rattle.rules.specs.Start.{Reliable, started, unstarted, start, new, good_messages, good_record, good_policy, good_reject}
use Rattle.rules.proofs.Lists.{and_left, and_right, Every, every_true}
use Rattle.starts.specs.declared.Reliable as Code
use Rattle.starts.specs.Started.{messages_of, short_record}
use Rattle.starts.specs.Records.{reliable_of, under, GoodMessages, GoodRecord, Fitting, Beginning, verdict_of}
use Rattle.starts.proofs.Messages.{Long, long_record, slice_tests, good_slices}

-- ---- a chain of tests

last_test : (t : Bool) → (t && true) ≡ t
last_test true = refl
last_test false = refl

-- ---- the messages

module _ (next : ℕ) (ns ks : List ℕ) where
  by_slices : {t : Bool} → every (slice_tests next ns ks) ≡ t
      → GoodMessages next ns ks t
  by_slices e b l = sym (good_slices next ns ks b (long_record ns ks b l) ∙ e)

  pub too_many : 256 < length ns → GoodMessages next ns ks false
  too_many h = by_slices (third (rising itself 0 ns) (all (under next) ns) (leb (length ns) 256) (leb (total itself (take (length ns) ks)) 65536) (lt-leb _ _ h))
    where
      third : (p q r s : Bool) → r ≡ false → every (p ∷ q ∷ r ∷ s ∷ []) ≡ false
      third true true r s e = rw e
      third true false r s e = refl
      third false q r s e = refl

  pub unordered : (rising itself 0 ns && all (under next) ns) ≡ false → GoodMessages next ns ks false
  unordered e = by_slices (front (rising itself 0 ns) (all (under next) ns) (leb (length ns) 256) (leb (total itself (take (length ns) ks)) 65536) e)
    where
      front : (p q r s : Bool) → (p && q) ≡ false → every (p ∷ q ∷ r ∷ s ∷ []) ≡ false
      front true q r s e = rw e
      front false q r s e = refl

  pub by_size : {t : Bool} → length ns ≤ 256 → (rising itself 0 ns && all (under next) ns) ≡ true → t ≡ leb (total itself (take (length ns) ks)) 65536
      → GoodMessages next ns ks t
  by_size {t} few o e =
      by_slices
      (last (rising itself 0 ns) (all (under next) ns) (leb (length ns) 256) (leb (total itself (take (length ns) ks)) 65536)
      (and_left (rising itself 0 ns) _ o) (and_right (rising itself 0 ns) _ o) (le-leb (length ns) 256 few)
      ∙ sym e)
    where
      last : (p q r s : Bool) → p ≡ true → q ≡ true → r ≡ true → every (p ∷ q ∷ r ∷ s ∷ []) ≡ s
      last p q r s a b c = rw (a, b, c) (last_test s)

-- ---- the record

module _ (x : Code.Reliable) (ns ks : List ℕ) where
  pub number-none : x.message_number < 1 → GoodRecord x ns ks false
  unfolding good_record
  number-none h b l = rw (lt-leb 1 x.message_number h)

  module _ (one : 1 ≤ x.message_number) where
    pub number_high : 4294967296 < x.message_number → GoodRecord x ns ks false
    unfolding good_record
    number_high h b l = rw (le-leb 1 x.message_number one, lt-leb x.message_number 4294967296 h)

    module _ (low : x.message_number ≤ 4294967296) where
      pub remote_high : 18446744073709551614 < x.remote_number → GoodRecord x ns ks false
      unfolding good_record
      remote_high h b l =
          rw (le-leb 1 x.message_number one, le-leb x.message_number 4294967296 low, lt-leb x.remote_number 18446744073709551614 h)

      pub by_messages : {t : Bool} → x.remote_number ≤ 18446744073709551614 → GoodMessages x.message_number ns ks t → GoodRecord x ns ks t
      unfolding good_record
      by_messages h g b l =
          rw (le-leb 1 x.message_number one, le-leb x.message_number 4294967296 low, le-leb x.remote_number 18446744073709551614 h)
          (g b l ∙ sym (last_test (good_messages x.message_number (messages_of ns ks b))))

-- ---- the verdict, test by test

module _ (r : Reliable) (p : Policy) (j : Bytes) where
  module _ {s : Bool} (long : s ≡ false) where
    pub found-code : 4 < r.disposition → Err UnknownCode ≡ verdict_of s (start r p j)
    unfolding start
    found-code h = rw (long, lt-ltb 4 r.disposition h)

    module _ (known : r.disposition ≤ 4) where
      pub found_record : good_record r ≡ false → Err BadRecord ≡ verdict_of s (start r p j)
      unfolding start
      found_record e = rw (long, le-ltb 4 r.disposition known, e)

      module _ (good : good_record r ≡ true) where
        pub found-policy : good_policy p ≡ false → Err BadRecord ≡ verdict_of s (start r p j)
        unfolding start
        found-policy e = by_tests s (ltb 4 r.disposition) (good_record r) (good_policy p) (good_reject j) long (le-ltb 4 r.disposition known) good e
          where
            by_tests : (s c g q k : Bool) → s ≡ false → c ≡ false → g ≡ true → q ≡ false
                → Err BadRecord
                ≡ verdict_of s (if c then unstarted UnknownCode else if g && q && k then started (new r p j) else unstarted BadRecord)
            by_tests s c g q k a b d e = rw (a, b, d, e)

        module _ (fine : good_policy p ≡ true) where
          pub by_reject_body : (k : Bool) → good_reject j ≡ k
              → verdict_of s (start r p j) ≡ (if k then Ok tt else Err BadRecord)
          unfolding start
          by_reject_body k e = by_tests s (ltb 4 r.disposition) (good_record r) (good_policy p) (good_reject j) k long (le-ltb 4 r.disposition known) good fine e
            where
              by_tests : (s c g q h k : Bool) → s ≡ false → c ≡ false → g ≡ true → q ≡ true → h ≡ k
                  → verdict_of s (if c then unstarted UnknownCode else if g && q && h then started (new r p j) else unstarted BadRecord)
                  ≡ (if k then Ok tt else Err BadRecord)
              by_tests s c g q h true a b d f e = rw (a, b, d, f, e)
              by_tests s c g q h false a b d f e = rw (a, b, d, f, e)

-- ---- what a good verdict shows

pub record Good (s : Bool) (r : Reliable) (p : Policy) (j : Bytes) : Type 0 where
  pub long : s ≡ false
  pub known : ltb 4 r.disposition ≡ false
  pub fine : good_record r ≡ true
  pub body : good_reject j ≡ true
  pub starts : start r p j ≡ started (new r p j)

pub found-good : (s : Bool) (r : Reliable) (p : Policy) (j : Bytes) → verdict_of s (start r p j) ≡ Ok tt → Good s r p j
unfolding start
found-good s r p j e =
    let f = by_tests s (ltb 4 r.disposition) (good_record r) (good_policy p) (good_reject j) e in
    record { long = f.0; known = f.1; fine = f.2; body = f.3; starts = f.4 }
  where
    never : {x : Refusal} → ◌≡◌ {A = Result (Unit {0}) Refusal} (Err x) (Ok tt) → ⊥
    never p = let z : ◌≡◌ {A = ℕ} 0 1 = cc in omega arith

    by_tests : (s c g q k : Bool) → verdict_of s (if c then unstarted UnknownCode else if g && q && k then started (new r p j) else unstarted BadRecord) ≡ Ok tt
        → (s ≡ false) × (c ≡ false) × (g ≡ true) × (k ≡ true)
        × ((if c then unstarted UnknownCode else if g && q && k then started (new r p j) else unstarted BadRecord) ≡ started (new r p j))
    by_tests true c g q k e = absurd (never e)
    by_tests false true g q k e = absurd (never e)
    by_tests false false false q k e = absurd (never e)
    by_tests false false true false k e = absurd (never e)
    by_tests false false true true false e = absurd (never e)
    by_tests false false true true true e = (refl, refl, refl, refl, refl)

-- a number below the next is one of 32 bits
below_at : (next : ℕ) (ns : List ℕ) (i : ℕ) → all (under next) ns ≡ true → i < length ns → get_or ns i 0 < next
unfolding all
below_at next [] i e h = absurd (omega arith)
below_at next (n ∷ ns) zero e h = ltb-true n next (and_left (ltb n next) _ e)
below_at next (n ∷ ns) (suc i) e h = below_at next ns i (and_right (ltb n next) _ e) (omega arith)

pub good-fitting : (x : Code.Reliable) (ns ks : List ℕ) (b : Bytes) → Long ns ks b → good_record (reliable_of x ns ks b) ≡ true → Fitting ns ks
unfolding good_record
good-fitting x ns ks b l e =
    let next : ℕ = x.message_number in
    let tests : List Bool = leb 1 next ∷ leb next 4294967296 ∷ leb x.remote_number 18446744073709551614 ∷ good_messages next (messages_of ns ks b) ∷ [] in
    let f : Every tests = every_true tests e in
    let g : Every (slice_tests next ns ks) = every_true (slice_tests next ns ks) (sym (good_slices next ns ks b l) ∙ f.1.1.1.0) in
    let low : x.message_number ≤ 4294967296 = leb-true _ _ f.1.0 in
    record {
      enough = l.enough;
      few = leb-true _ _ g.1.1.0;
      low = λ i h. omega (arith, below_at x.message_number ns i g.1.0 h);
      small = leb-true _ _ g.1.1.1.0;
    }

pub good_beginning : (x : Code.Reliable) (ns ks : List ℕ) (b : Bytes) (p : Policy) (j : Bytes) → Good (short_record ns ks b) (reliable_of x ns ks b) p j
    → Beginning x ns ks j
good_beginning x ns ks b p j g =
    record {
      fitting = good-fitting x ns ks b (long_record ns ks b g.long) g.fine;
      known = ltb-false _ _ g.known;
      short = leb-true _ _ (and_left (leb (length j) 64) _ (and_right (leb 1 (length j)) _ g.body));
    }
