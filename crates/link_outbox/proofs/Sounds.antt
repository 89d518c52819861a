-- When the tests of `sound` pass. Assumes nothing.
use Rattle.std.specs.Int.{from_bool}
use Rattle.std.specs.Prelude.{if◌then◌else◌}
use mathlib.Core.Path.{◌≡◌, refl, sym, ap, ◌∙◌}
use mathlib.Core.Bool.{Bool, true, false, ◌&&◌, true≢false}
use mathlib.Core.List.{List, [], ◌∷◌}
use Prim.Native.Nat.{ℕ, zero, suc, ◌+◌, ◌-◌, ◌*◌, ◌^◌, ◌≤◌, ◌<◌}
use native.Mathlib.Omega.{arith}
use native.Mathlib.Nat.{eq-or-lt_of_le}
use mathlib.Core.Logic.{⊎_elim}
use lib.ListN.{length, take, drop, get_or}
use lib.Seq.{slice, get_or-take, length-take-le}
use lib.Dec.{ltb, leb}
use borrow.Author.Tests.{le-leb, lt-leb, lt-ltb, ltb-false, ltb-true, leb-true}
use Rattle.std.proofs.lemmas.Bool.{and_parts}
use Rattle.rules.specs.Lists.{all, total, rising, itself}
use Rattle.rules.proofs.Lists.{and_left, and_right, and_both}
use Rattle.stores.proofs.Packs.{slice-none}
use Rattle.outbox.specs.declared.Unacked.{Unacked}
use Rattle.outbox.specs.declared.Outbox.{Outbox}
use Rattle.outbox.specs.View.{num_u, len_u, used_u, end_u, blank_u}
use Rattle.outbox.specs.Sound.{sound_outbox_of}
use Rattle.outbox.specs.Records.{below_u}
use Rattle.outbox.proofs.Listings.{rises-above}
use Rattle.outbox.proofs.View.{SoundU, sound_facts, facts_sound}
use Rattle.parts.specs.Seats.{seats}
use Rattle.parts.specs.Parts.{at, unacked_at, outbox_in}
use Rattle.parts.proofs.Seats.{length-seats, get_d_seats, take-seats, slice-seats, run_is, total-map}
use Rattle.link_outbox.specs.Tests.{fall, falls, Steps, Bounded}

-- ---- numbers that rise

pub fall-none : (a b : ℕ) → a < b → 0 ≡ fall a b
fall-none a b h = sym (ap (λ (t : Bool). if t then 0 else 1) (lt-ltb a b h))

pub fall_is : (a b : ℕ) → from_bool (leb b a) ≡ fall a b
fall_is a b = go (ltb a b) refl
  where
    go : (t : Bool) → ltb a b ≡ t → from_bool (leb b a) ≡ fall a b
    go true e = ap from_bool (lt-leb b a (ltb-true a b e)) ∙ fall-none a b (ltb-true a b e)
    go false e = ap from_bool (le-leb b a (ltb-false a b e)) ∙ sym (ap (λ (t : Bool). if t then 0 else 1) e)

pub falls-none : (last : ℕ) (us : List Unacked) → rising num_u last us ≡ true → falls last us ≡ 0
unfolding rising falls
falls-none last [] h = refl
falls-none last (u ∷ us) h =
    let l : last < u.number = ltb-true last u.number (and_left (ltb last u.number) _ h) in
    let r : falls u.number us ≡ 0 = falls-none u.number us (and_right (ltb last u.number) _ h) in
    omega (arith, fall-none last u.number l)

fall-rises : (a b : ℕ) → ◌≡◌ {A = ℕ} (fall a b) 0 → ltb a b ≡ true
fall-rises a b h = go (ltb a b) h
  where
    go : (t : Bool) → ◌≡◌ {A = ℕ} (if t then 0 else 1) 0 → t ≡ true
    go true e = refl
    go false e = absurd (omega arith)

pub none-falls : (last : ℕ) (us : List Unacked) → falls last us ≡ 0 → rising num_u last us ≡ true
unfolding rising falls
none-falls last [] h = refl
none-falls last (u ∷ us) h =
    and_both (ltb last u.number) _ (fall-rises last u.number (omega arith)) (none-falls u.number us (omega arith))

-- a number that is before another is below it
pub rises_between : (last i j : ℕ) (us : List Unacked) → rising num_u last us ≡ true → i < j → j < length us → (get_or us i blank_u).number < (get_or us j blank_u).number
unfolding rising
rises_between last i j [] h l k = absurd (omega arith)
rises_between last i zero (u ∷ us) h l k = absurd (omega arith)
rises_between last zero (suc j) (u ∷ us) h l k = rises-above u.number j us (and_right (ltb last u.number) _ h) (omega arith)
rises_between last (suc i) (suc j) (u ∷ us) h l k = rises_between u.number i j us (and_right (ltb last u.number) _ h) (omega arith) (omega arith)

-- ---- the last number is below the next

below_all : (next : ℕ) (us : List Unacked) → ((i : ℕ) → i < length us → (get_or us i blank_u).number < next) → all (below_u next) us ≡ true
unfolding all
below_all next [] h = refl
below_all next (u ∷ us) h =
    and_both (ltb u.number next) _ (lt-ltb _ _ (h 0 (omega arith))) (below_all next us (λ i k. h (suc i) (omega arith)))

all-below : (next i : ℕ) (us : List Unacked) → all (below_u next) us ≡ true → i < length us → (get_or us i blank_u).number < next
unfolding all
all-below next i [] h k = absurd (omega arith)
all-below next zero (u ∷ us) h k = ltb-true _ _ (and_left (ltb u.number next) _ h)
all-below next (suc i) (u ∷ us) h k = all-below next i us (and_right (ltb u.number next) _ h) (omega arith)

-- ---- a loop's step and its end

module _ (f : ℕ → Unacked) (i n : ℕ) where
  pub falls-step : (last : ℕ) → i < n → n ≤ 256 → falls last (slice i n (seats 256 f)) ≡ fall last (f i).number + falls (f i).number (slice (i + 1) n (seats 256 f))
  unfolding falls
  falls-step last h k = ap (falls last) (slice-seats i n 256 f h k)

  pub falls-end : (last : ℕ) → n ≤ i → falls last (slice i n (seats 256 f)) ≡ 0
  unfolding falls
  falls-end last h = ap (falls last) (slice-none (seats 256 f) i n h)

  pub total-seats : (size : Unacked → ℕ) → i < n → n ≤ 256 → total size (slice i n (seats 256 f)) ≡ size (f i) + total size (slice (i + 1) n (seats 256 f))
  unfolding total
  total-seats size h k = ap (total size) (slice-seats i n 256 f h k)

  pub total-end : (size : Unacked → ℕ) → n ≤ i → total size (slice i n (seats 256 f)) ≡ 0
  unfolding total
  total-end size h = ap (total size) (slice-none (seats 256 f) i n h)

pub falls_more : (h b : List ℕ) (i n sum r t : ℕ) → n ≤ 256 → i < n → r ≡ fall (at h (i - 1)) (at h i)
    → sum + falls (at h (i - 1)) (slice i n (seats 256 (unacked_at h b))) ≡ t
    → sum + r + falls (at h (i + 1 - 1)) (slice (i + 1) n (seats 256 (unacked_at h b))) ≡ t
falls_more h b i n sum r t few k e s =
    let z : i + 1 - 1 ≡ i = omega arith in
    let f : falls (at h (i + 1 - 1)) (slice (i + 1) n (seats 256 (unacked_at h b))) ≡ falls (at h i) (slice (i + 1) n (seats 256 (unacked_at h b))) =
    ap (λ (j : ℕ). falls (at h j) (slice (i + 1) n (seats 256 (unacked_at h b)))) z in
    omega (arith, falls-step (unacked_at h b) i n (at h (i - 1)) k few)

-- ---- numbers that follow one another

-- they rise
pub steps_rise : (h b : List ℕ) (first n : ℕ) → n ≤ 256 → Steps h first n → (m i : ℕ) → 1 ≤ i → i + m ≡ n
    → falls (at h (i - 1)) (slice i n (seats 256 (unacked_at h b))) ≡ 0
steps_rise h b first n few s zero i one e = falls-end (unacked_at h b) i n (at h (i - 1)) (omega arith)
steps_rise h b first n few s (suc m) i one e =
    let z : i + 1 - 1 ≡ i = omega arith in
    let l : at h (i - 1) < at h i = omega (arith, s (i - 1) (omega arith), s i (omega arith)) in
    let r : falls (at h (i + 1 - 1)) (slice (i + 1) n (seats 256 (unacked_at h b))) ≡ 0 = steps_rise h b first n few s m (i + 1) (omega arith) (omega arith) in
    let q : falls (at h i) (slice (i + 1) n (seats 256 (unacked_at h b))) ≡ 0 = sym (ap (λ (j : ℕ). falls (at h j) (slice (i + 1) n (seats 256 (unacked_at h b)))) z) ∙ r in
    omega (arith, falls-step (unacked_at h b) i n (at h (i - 1)) (omega arith) few, fall-none (at h (i - 1)) (at h i) l)

-- ---- the tests

-- where three tests do not all pass, the fourth is not made
pub stopped : (x y z t : Bool) {r : Bool} → r ≡ ((x && y) && z) → r ≡ false → r ≡ (x && (y && (z && t)))
stopped true true true t e f = absurd (true≢false (sym e ∙ f))
stopped true true false t e f = f
stopped true false z t e f = f
stopped false y z t e f = f

-- where they do, the fourth decides
pub decides : (x y z t : Bool) {v r : Bool} → v ≡ ((x && y) && z) → v ≡ true → r ≡ t → r ≡ (x && (y && (z && t)))
decides true true true t e f g = g
decides true true false t e f g = absurd (true≢false (sym f ∙ e))
decides true false z t e f g = absurd (true≢false (sym f ∙ e))
decides false y z t e f g = absurd (true≢false (sym f ∙ e))

-- two answers that stand for each other
pub same : (a b : Bool) → (a ≡ true → b ≡ true) → (b ≡ true → a ≡ true) → a ≡ b
same true b f g = sym (f refl)
same false true f g = g refl
same false false f g = refl

module _ (w h b : List ℕ) where
  -- the outbox, its records, those in use
  abbrev x : Outbox
  x = outbox_in w h b

  abbrev f : ℕ → Unacked
  f = unacked_at h b

  abbrev n : ℕ
  n = at w 1

  -- what a record in use is
  pub used-at : n ≤ 256 → (i : ℕ) → i < n → get_or (used_u x) i blank_u ≡ f i
  used-at few i k = get_or-take n (seats 256 f) i blank_u k ∙ get_d_seats 256 f i blank_u (omega arith)

  pub used-length : n ≤ 256 → length (used_u x) ≡ n
  used-length few = length-take-le n (seats 256 f) (omega (arith, length-seats 256 f))

  -- numbers of records in use rise
  pub number-rises : SoundU x → (i j : ℕ) → i < j → j < n → at h i < at h j
  number-rises s i j l k =
      let r : (get_or (used_u x) i blank_u).number < (get_or (used_u x) j blank_u).number =
      rises_between 0 i j (used_u x) s.order l (omega (arith, used-length s.few)) in
      omega (arith, ap num_u (used-at s.few i (omega arith)), ap num_u (used-at s.few j k))

  module _ (s : SoundU x) (some : 0 < n) where
    first_positive : 0 < at h 0
    first_positive =
        omega (arith, ap num_u (used-at s.few 0 some), rises-above 0 0 (used_u x) s.order (omega (arith, used-length s.few)))

    last-below : at h (n - 1) < at w 0
    last-below =
        omega (arith, ap num_u (used-at s.few (n - 1) (omega arith)), all-below (at w 0) (n - 1) (used_u x) s.below (omega (arith, used-length s.few)))

    no_falls : falls (at h 0) (slice 1 n (seats 256 f)) ≡ 0
    no_falls =
        let e : falls 0 (used_u x) ≡ fall 0 (at h 0) + falls (at h 0) (slice 1 n (seats 256 f)) = falls-step f 0 n 0 some s.few in
        omega (arith, falls-none 0 (used_u x) s.order)

  pub sound_none : 1 ≤ at w 0 → at w 0 ≤ 4294967296 → n ≡ 0 → true ≡ sound_outbox_of x
  unfolding rising all total
  sound_none one end none =
      let e : used_u x ≡ [] = ap (λ (k : ℕ). take k (seats 256 f)) none in
      sym (facts_sound x (record {
        few = omega arith;
        one = one;
        end = end;
        order = ap (rising num_u 0) e;
        below = ap (all (below_u (at w 0))) e;
        small = omega (arith, ap (total len_u) e);
      }))

  sound-all : n ≤ 256 → 1 ≤ at w 0 → at w 0 ≤ 4294967296 → 0 < n → 0 < at h 0 → at h (n - 1) < at w 0
      → falls (at h 0) (slice 1 n (seats 256 f)) ≡ 0 → total len_u (take n (seats 256 f)) ≤ 65536 → true ≡ sound_outbox_of x
  sound-all few one end some first last rise small =
      let e : falls 0 (used_u x) ≡ fall 0 (at h 0) + falls (at h 0) (slice 1 n (seats 256 f)) = falls-step f 0 n 0 some few in
      let up : rising num_u 0 (used_u x) ≡ true = none-falls 0 (used_u x) (omega (arith, fall-none 0 (at h 0) first)) in
      let l : length (used_u x) ≡ n = used-length few in
      let le : (get_or (used_u x) (n - 1) blank_u).number ≡ at h (n - 1) = ap num_u (used-at few (n - 1) (omega arith)) in
      sym (facts_sound x (record {
        few = few;
        one = one;
        end = end;
        order = up;
        below = below_all (at w 0) (used_u x) (λ i k. below_last i k up l le);
        small = small;
      }))
    where
      upto : (i : ℕ) → i < length (used_u x) → length (used_u x) ≡ n → i ≤ n - 1
      upto i k l = omega arith

      below_last : (i : ℕ) → i < length (used_u x) → rising num_u 0 (used_u x) ≡ true → length (used_u x) ≡ n → (get_or (used_u x) (n - 1) blank_u).number ≡ at h (n - 1) → (get_or (used_u x) i blank_u).number < at w 0
      below_last i k up l le = ⊎_elim (λ (e : i ≡ n - 1). omega (arith, ap (λ (j : ℕ). (get_or (used_u x) j blank_u).number) e)) (λ (e : i < n - 1). omega (arith, rises_between 0 i (n - 1) (used_u x) up e (omega arith))) (eq-or-lt_of_le (upto i k l))

  -- the tests of an outbox with messages
  pub sound-some : 1 ≤ at w 0 → at w 0 ≤ 4294967296 → 0 < n → n ≤ 256
      → (leb 1 (at h 0) && (ltb (at h (n - 1)) (at w 0) && (ltb (falls (at h 0) (slice 1 n (seats 256 f))) 1 && leb (total len_u (take n (seats 256 f))) 65536)))
      ≡ sound_outbox_of x
  sound-some one end some few =
      same _ (sound_outbox_of x)
      (λ e.
      let p = and_parts (leb 1 (at h 0)) _ e in
      let q = and_parts (ltb (at h (n - 1)) (at w 0)) _ p.1 in
      let r = and_parts (ltb (falls (at h 0) (slice 1 n (seats 256 f))) 1) _ q.1 in
      sym (sound-all few one end some (leb-true _ _ p.0) (ltb-true _ _ q.0) (omega (arith, ltb-true _ _ r.0)) (leb-true _ _ r.1)))
      (λ e.
      let s : SoundU x = sound_facts x e in
      and_both (leb 1 (at h 0)) _ (le-leb _ _ (first_positive s some))
      (and_both (ltb (at h (n - 1)) (at w 0)) _ (lt-ltb _ _ (last-below s some))
      (and_both (ltb (falls (at h 0) (slice 1 n (seats 256 f))) 1) _ (lt-ltb _ _ (omega (arith, no_falls s some))) (le-leb _ _ s.small))))

-- ---- where the bodies end

pub take-total : (f : ℕ → Unacked) (n : ℕ) → n ≤ 256 → total len_u (take n (seats 256 f)) ≡ total len_u (seats n f)
take-total f n h = ap (total len_u) (take-seats n 256 f h)

-- whatever they are
total-most : (n : ℕ) (f : ℕ → Unacked) → ((i : ℕ) → (f i).len < 4294967296) → total len_u (seats n f) ≤ 4294967295 * n
unfolding total seats
total-most zero f e = omega arith
total-most (suc n) f e = omega (arith, e 0, total-most n (λ i. f (suc i)) (λ i. e (suc i)))

-- by the lengths as the code lends them
module _ (h : List ℕ) (n : ℕ) (few : n ≤ 256) (room : 512 ≤ length h) where
  abbrev pub lens : List ℕ
  lens = take (256 + n - 256) (drop 256 h)

  pub run_lens : (b : List ℕ) → total itself lens ≡ total len_u (seats n (unacked_at h b))
  run_lens b = ap (total itself) (run_is len_u 256 n (unacked_at h b) h (omega arith) (λ j l. refl)) ∙ total-map len_u itself (seats n (unacked_at h b))

  pub lens_most : ((i : ℕ) → at h i < 4294967296) → total itself lens < 2 ^ 64
  lens_most e = omega (arith, run_lens [], total-most n (unacked_at h []) (λ i. e (256 + i)))

-- by the records in use
pub ends_at : (w h b : List ℕ) → at w 1 ≤ 256 → total len_u (seats (at w 1) (unacked_at h b)) ≡ end_u (outbox_in w h b)
ends_at w h b few = sym (take-total (unacked_at h b) (at w 1) few)

-- flags do not matter
pub total-same : (n : ℕ) (f g : ℕ → Unacked) → ((i : ℕ) → (f i).len ≡ (g i).len) → total len_u (seats n f) ≡ total len_u (seats n g)
unfolding total seats
total-same zero f g e = refl
total-same (suc n) f g e = omega (arith, e 0, total-same n (λ i. f (suc i)) (λ i. g (suc i)) (λ i. e (suc i)))

pub bounded : (w h b : List ℕ) → at w 1 ≤ 256 → end_u (outbox_in w h b) ≤ 65536 → Bounded h (at w 1)
bounded w h b few small =
    record {
      few = few;
      small = λ c. omega (arith, take-total (unacked_at h b) (at w 1) few, total-same (at w 1) (unacked_at h b) (unacked_at h c) (λ i. refl));
    }

-- as callers have it
pub bounded_sound : (w h b : List ℕ) → sound_outbox_of (outbox_in w h b) ≡ true → Bounded h (at w 1)
bounded_sound w h b e =
    let s : SoundU (outbox_in w h b) = sound_facts (outbox_in w h b) e in
    bounded w h b s.few s.small
