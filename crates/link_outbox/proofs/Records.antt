-- Records that lie in halves and bytes, after a write. Assumes nothing.
use mathlib.Core.Path.{◌≡◌, refl, sym, ap, ◌∙◌}
use mathlib.Core.Bool.{Bool, true, false}
use mathlib.Core.List.{List, map}
use Prim.Native.Nat.{ℕ, ◌+◌, ◌≤◌, ◌<◌}
use native.Mathlib.Omega.{arith}
use lib.ListN.{length, get_or, set, length-set}
use lib.Seq.{get_or-set_same, get_or-set_other}
use lib.Dec.{eqb}
use borrow.Author.Tests.{eqb-true, eqb-false}
use Rattle.stores.specs.Packed.{cut}
use Rattle.rules.specs.Lists.{total}
use Rattle.rules.specs.State as R
use Rattle.outbox.specs.declared.Unacked.{Unacked}
use Rattle.outbox.specs.View.{len_u, unacked, used_u, unacked_of, end_u}
use Rattle.outbox.specs.Steps.{Flagged}
use Rattle.outbox.proofs.Flags.{Flags, total-flags, cut-flags}
use Rattle.parts.specs.Seats.{seats}
use Rattle.parts.specs.Parts.{at, flag, unacked_at, outbox_in}
use Rattle.parts.specs.Frames.{Past}
use Rattle.parts.proofs.Seats.{length-seats, get_d_seats, seats-same, seats_of, take-seats, map-seats}

-- by whether two numbers are equal
pub by_eq : {P : Type 0} (i j : ℕ) → (i ≡ j → P) → ((i ≡ j → ⊥) → P) → P
by_eq {P} i j f g = go (eqb i j) (eqb-true i j) (eqb-false i j)
  where
    go : (t : Bool) → (t ≡ true → i ≡ j) → (t ≡ false → i ≡ j → ⊥) → P
    go true h k = f (h refl)
    go false h k = g (k refl)

-- ---- what a function leaves alone

pub past_same : (n : ℕ) (l : List ℕ) → Past n l l
past_same n l = record { size = refl; same = λ i k. refl }

pub past-set : {n : ℕ} {l l' : List ℕ} → Past n l l' → (i v : ℕ) → i < n → Past n l (set l' i v)
past-set {n} {l} {l'} p i v h =
    record {
      size = length-set l' i v ∙ p.size;
      same = λ j k. get_or-set_other l' i j v 0 (λ e. omega arith) ∙ p.same j k;
    }

-- ---- a record

-- two writes of a list, at index i and at index 256 + i
module _ (l : List ℕ) (i a c : ℕ) (h : i < 256) where
  abbrev pub twice : List ℕ
  twice = set (set l i a) (256 + i) c

  pub twice_low : i < length l → at twice i ≡ a
  twice_low r = get_or-set_other (set l i a) (256 + i) i c 0 (λ e. omega arith) ∙ get_or-set_same l i a 0 r

  pub twice_high : 256 + i < length l → at twice (256 + i) ≡ c
  twice_high r = get_or-set_same (set l i a) (256 + i) c 0 (omega (arith, length-set l i a))

  pub twice_other : (j : ℕ) → (j ≡ i → ⊥) → (j ≡ 256 + i → ⊥) → at twice j ≡ at l j
  twice_other j p q = get_or-set_other (set l i a) (256 + i) j c 0 q ∙ get_or-set_other l i j a 0 p

  pub twice_past : Past 512 l twice
  twice_past = past-set (past-set (past_same 512 l) i a (omega arith)) (256 + i) c (omega arith)

-- what settles a record
pub unacked-same : (h b h' b' : List ℕ) (j : ℕ) → at h' j ≡ at h j → at h' (256 + j) ≡ at h (256 + j) → at b' j ≡ at b j → at b' (256 + j) ≡ at b (256 + j)
    → unacked_at h' b' j ≡ unacked_at h b j
unacked-same h b h' b' j e f g k = rw (e, f, g, k)

-- one record of an array is written
pub seats-set : {A : Type 0} (m i : ℕ) (f g : ℕ → A) (v : A) → i < m → g i ≡ v → ((j : ℕ) → j < m → (j ≡ i → ⊥) → g j ≡ f j) → seats m g ≡ set (seats m f) i v
seats-set {A} m i f g v h e k =
    let l : length (seats m f) ≡ m = length-seats m f in
    sym
    (seats_of m g (set (seats m f) i v) v (length-set (seats m f) i v ∙ l)
    (λ j r. by_eq j i
    (λ is. ap (λ (x : ℕ). get_or (set (seats m f) i v) x v) is ∙ get_or-set_same (seats m f) i v v (omega arith) ∙ sym e ∙ ap g (sym is))
    (λ not. get_or-set_other (seats m f) i j v v not ∙ get_d_seats m f j v r ∙ sym (k j r not))))

-- a record is written: both halves and both bytes of it
module _ (h b : List ℕ) (i number len pending unsent : ℕ) (k : i < 256) (lh : length h ≡ 772) (lb : length b ≡ 4936) where
  written_here : unacked_at (twice h i number len k) (twice b i pending unsent k) i ≡ record { number = number; len = len; pending = flag pending; unsent = flag unsent }
  written_here =
      let p1 : at (twice h i number len k) i ≡ number = twice_low h i number len k (omega arith) in
      let p2 : at (twice h i number len k) (256 + i) ≡ len = twice_high h i number len k (omega arith) in
      let p3 : at (twice b i pending unsent k) i ≡ pending = twice_low b i pending unsent k (omega arith) in
      let p4 : at (twice b i pending unsent k) (256 + i) ≡ unsent = twice_high b i pending unsent k (omega arith) in
      rw (p1, p2, p3, p4)

  written_others : (j : ℕ) → j < 256 → (j ≡ i → ⊥) → unacked_at (twice h i number len k) (twice b i pending unsent k) j ≡ unacked_at h b j
  written_others j r not =
      unacked-same h b (twice h i number len k) (twice b i pending unsent k) j
      (twice_other h i number len k j not (λ e. omega arith))
      (twice_other h i number len k (256 + j) (λ e. omega arith) (λ e. not (omega arith)))
      (twice_other b i pending unsent k j not (λ e. omega arith))
      (twice_other b i pending unsent k (256 + j) (λ e. omega arith) (λ e. not (omega arith)))

  pub written : seats 256 (unacked_at (twice h i number len k) (twice b i pending unsent k))
      ≡ set (seats 256 (unacked_at h b)) i (record { number = number; len = len; pending = flag pending; unsent = flag unsent })
  written =
      seats-set 256 i (unacked_at h b) (unacked_at (twice h i number len k) (twice b i pending unsent k))
      (record { number = number; len = len; pending = flag pending; unsent = flag unsent }) k written_here written_others

-- ---- flags are changed, and nothing else

module _ {f : R.Unacked → R.Unacked} {g : Unacked → Unacked} (F : Flags f g) where
  pub flagged-seats : (w h b b' : List ℕ) → at w 1 ≤ 256 → ((i : ℕ) → i < at w 1 → unacked_at h b' i ≡ g (unacked_at h b i))
      → Flagged f (outbox_in w h b) (outbox_in w h b')
  unfolding unacked_of
  flagged-seats w h b b' few same =
      let n : ℕ = at w 1 in
      let us : used_u (outbox_in w h b') ≡ map g (used_u (outbox_in w h b)) =
      take-seats (at w 1) 256 (unacked_at h b') few
      ∙ seats-same (at w 1) (unacked_at h b') (λ i. g (unacked_at h b i)) same
      ∙ sym (map-seats g (at w 1) (unacked_at h b))
      ∙ ap (map g) (sym (take-seats (at w 1) 256 (unacked_at h b) few)) in
      let t : end_u (outbox_in w h b') ≡ end_u (outbox_in w h b) = ap (total len_u) us ∙ total-flags F (used_u (outbox_in w h b)) in
      record {
        next = refl;
        ends = t;
        exact = λ size e. record { full = length-seats 256 (unacked_at h b'); few = e.few; small = omega (arith, e.small); room = e.room };
        unacked = λ o k. ap (λ (l : List Unacked). cut len_u unacked l o) us ∙ cut-flags F (used_u (outbox_in w h b)) o;
      }
