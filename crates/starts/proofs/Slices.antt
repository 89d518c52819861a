-- What the loops over the record's slices keep: lengths counted down, numbers that rise, records filled. Assumes nothing.
use mathlib.Core.Path.{◌≡◌, refl, ap, ◌∙◌}
use mathlib.Core.Bool.{Bool, true, false, ◌&&◌}
use mathlib.Core.List.{List, [], ◌∷◌}
use Prim.Native.Nat.{ℕ, zero, suc, ◌+◌, ◌-◌, ◌≤◌, ◌<◌}
use native.Mathlib.Omega.{arith}
use lib.ListN.{length, take, get_or, set, replicate, length-replicate}
use lib.Seq.{slice}
use lib.Dec.{leb}
use borrow.Author.Tests.{le-leb, lt-leb, lt-ltb, le-ltb}
use Rattle.rules.specs.Lists.{total, itself, all, rising}
use Rattle.stores.proofs.Packs.{total-step, total-none, total_split}
use Rattle.stores.proofs.Scans.{rises-on, rises_not, rises-none, all-on, all_not, all_none}
use Rattle.stores.proofs.Runs.{Run, run_none, run_more}
use Rattle.outbox.specs.declared.Unacked.{Unacked}
use Rattle.outbox.specs.View.{blank_u}
use Rattle.starts.specs.Records.{under, records_of, Fitting}

-- ---- lengths counted down from a limit

pub record Counted (ks : List ℕ) (n limit left i : ℕ) : Type 0 where
  pub enough : n ≤ length ks
  pub within : i ≤ n
  pub ends : limit + total itself (slice i n ks) ≡ left + total itself (take n ks)

module _ {ks : List ℕ} {n limit left i : ℕ} (c : Counted ks n limit left i) where
  pub counted_more : i < n → get_or ks i 0 ≤ left → Counted ks n limit (left - get_or ks i 0) (i + 1)
  counted_more h k =
      let s : total itself (slice i n ks) ≡ get_or ks i 0 + total itself (slice (i + 1) n ks) = total-step itself ks i n 0 h c.enough in
      record { enough = c.enough; within = omega arith; ends = omega (arith, c.ends) }

  pub counted_out : i < n → left < get_or ks i 0 → leb (total itself (take n ks)) limit ≡ false
  counted_out h k =
      let s : total itself (slice i n ks) ≡ get_or ks i 0 + total itself (slice (i + 1) n ks) = total-step itself ks i n 0 h c.enough in
      let over : limit < total itself (take n ks) = omega (arith, c.ends) in
      lt-leb _ _ over

  pub counted_all : n ≤ i → leb (total itself (take n ks)) limit ≡ true
  counted_all h =
      let s : total itself (slice i n ks) ≡ 0 = total-none itself ks i n h in
      let within : total itself (take n ks) ≤ limit = omega (arith, c.ends) in
      le-leb _ _ within

-- ---- numbers that rise, below the next

pub record Risen (next : ℕ) (ns : List ℕ) (last i : ℕ) : Type 0 where
  pub within : i ≤ length ns
  pub order : rising itself 0 ns ≡ rising itself last (slice i (length ns) ns)
  pub below : all (under next) ns ≡ all (under next) (slice i (length ns) ns)

and_out : (a b : Bool) → b ≡ false → (a && b) ≡ false
and_out true b e = e
and_out false b e = refl

module _ {next : ℕ} {ns : List ℕ} {last i : ℕ} (r : Risen next ns last i) where
  pub risen_more : i < length ns → last < get_or ns i 0 → get_or ns i 0 < next → Risen next ns (get_or ns i 0) (i + 1)
  risen_more h l k =
      let m : length ns ≤ length ns = omega arith in
      record {
        within = omega arith;
        order = r.order ∙ rises-on itself ns i (length ns) 0 h m last l;
        below = r.below ∙ all-on (under next) ns i (length ns) 0 h m (lt-ltb _ _ k);
      }

  pub risen_not : i < length ns → get_or ns i 0 ≤ last → (rising itself 0 ns && all (under next) ns) ≡ false
  risen_not h l =
      let m : length ns ≤ length ns = omega arith in
      ap (λ (b : Bool). b && all (under next) ns) (r.order ∙ rises_not itself ns i (length ns) 0 h m last l)

  pub risen_over : i < length ns → next ≤ get_or ns i 0 → (rising itself 0 ns && all (under next) ns) ≡ false
  risen_over h l =
      let m : length ns ≤ length ns = omega arith in
      and_out (rising itself 0 ns) _ (r.below ∙ all_not (under next) ns i (length ns) 0 h m (le-ltb _ _ l))

  pub risen_all : length ns ≤ i → (rising itself 0 ns && all (under next) ns) ≡ true
  risen_all h =
      ap (λ (b : Bool). b && all (under next) ns) (r.order ∙ rises-none itself ns i (length ns) last h) ∙ r.below ∙ all_none (under next) ns i (length ns) h

-- ---- records filled

pub length-records : (ns ks : List ℕ) → length ns ≤ length ks → length (records_of ns ks) ≡ length ns
unfolding records_of
length-records [] ks h = refl
length-records (n ∷ ns) [] h = absurd (omega arith)
length-records (n ∷ ns) (k ∷ ks) h = ap suc (length-records ns ks (omega arith))

pub record_at : (ns ks : List ℕ) (i : ℕ) → length ns ≤ length ks → i < length ns
    → ◌≡◌ {A = Unacked} (record { number = get_or ns i 0; len = get_or ks i 0; pending = false; unsent = false }) (get_or (records_of ns ks) i blank_u)
unfolding records_of
record_at [] ks i h l = absurd (omega arith)
record_at (n ∷ ns) [] i h l = absurd (omega arith)
record_at (n ∷ ns) (k ∷ ks) zero h l = refl
record_at (n ∷ ns) (k ∷ ks) (suc i) h l = record_at ns ks i (omega arith) (omega arith)

-- one length is no more than all
pub length-small : (ns ks : List ℕ) (i : ℕ) → Fitting ns ks → i < length ns → get_or ks i 0 ≤ 65536
length-small ns ks i f h =
    let n : ℕ = length ns in
    let s : total itself (slice i n ks) ≡ get_or ks i 0 + total itself (slice (i + 1) n ks) = total-step itself ks i n 0 h f.enough in
    let t : total itself (take i (take n ks)) + total itself (slice i n ks) ≡ total itself (take n ks) = total_split itself (λ x b. x) i (take n ks) in
    omega (arith, f.small)

pub record Filling (ns ks : List ℕ) (rs : List Unacked) (i : ℕ) : Type 0 where
  pub fitting : Fitting ns ks
  pub run : Run (replicate 256 blank_u) 0 (records_of ns ks) (length ns) rs i

pub filling_none : (ns ks : List ℕ) → Fitting ns ks → Filling ns ks (replicate 256 blank_u) 0
filling_none ns ks f =
    record {
      fitting = f;
      run = run_none _ 0 _ (length-records ns ks f.enough) (omega (arith, length-replicate {A = Unacked} 256 blank_u, f.few));
    }

module _ {ns ks : List ℕ} {rs : List Unacked} {i : ℕ} (f : Filling ns ks rs i) where
  pub filling_more : i < length ns
      → Filling ns ks (set rs i (record { number = get_or ns i 0; len = get_or ks i 0; pending = false; unsent = false })) (i + 1)
  filling_more h =
      let z : 0 + i ≡ i = omega arith in
      let v : Unacked = record { number = get_or ns i 0; len = get_or ks i 0; pending = false; unsent = false } in
      let r : Run (replicate 256 blank_u) 0 (records_of ns ks) (length ns) (set rs (0 + i) v) (i + 1) =
      run_more f.run blank_u v h (record_at ns ks i f.fitting.enough h) in
      record { fitting = f.fitting; run = rw z at r }
