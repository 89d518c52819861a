-- Flags of records are changed, and their numbers and bodies are not. Assumes nothing.
use Rattle.std.specs.Prelude.{if◌then◌else◌}
use mathlib.Core.Path.{◌≡◌, refl, sym, ap, ◌∙◌}
use mathlib.Core.Bool.{Bool, true, false}
use mathlib.Core.List.{List, [], ◌∷◌, map}
use Prim.Native.Nat.{ℕ, ◌+◌, ◌≤◌, ◌<◌}
use native.Mathlib.Omega.{arith}
use lib.ListN.{length, take, drop, get_or, set}
use lib.Dec.{eqb}
use Rattle.stores.specs.Packed.{cut}
use Rattle.stores.proofs.Runs.{Mapped, mapped_none, mapped_later, mapped_more, mapped_all}
use Rattle.rules.specs.Lists.{Bytes, total}
use Rattle.rules.specs.State as R
use Rattle.rules.specs.Acks.{sent}
use Rattle.rules.specs.Commits.{release}
use Rattle.outbox.specs.declared.Unacked.{Unacked}
use Rattle.outbox.specs.declared.Outbox.{Outbox}
use Rattle.outbox.specs.View.{len_u, unacked, used_u, unacked_of, end_u, blank_u}
use Rattle.outbox.specs.Records.{release_u, releases_u, sent_u}
use Rattle.outbox.specs.Steps.{Flagged}

-- f on messages is g on records: whatever the body, and it keeps the length
pub record Flags (f : R.Unacked → R.Unacked) (g : Unacked → Unacked) : Type 0 where
  pub agrees : (u : Unacked) (b : Bytes) → unacked (g u) b ≡ f (unacked u b)
  pub keeps : (u : Unacked) → (g u).len ≡ u.len

-- a choice of flags
flags_pick : (t : Bool) (u v : Unacked) (b : Bytes) → unacked (if t then v else u) b ≡ (if t then unacked v b else unacked u b)
flags_pick true u v b = refl
flags_pick false u v b = refl

len_pick : (t : Bool) (u v : Unacked) → v.len ≡ u.len → (if t then v else u).len ≡ u.len
len_pick true u v e = e
len_pick false u v e = refl

pub release-flags : (upto : ℕ) → Flags (release upto) (release_u upto)
release-flags upto =
    record {
      agrees = λ u b. flags_pick (releases_u upto u) u (record { number = u.number; len = u.len; pending = false; unsent = true }) b;
      keeps = λ u. len_pick (releases_u upto u) u (record { number = u.number; len = u.len; pending = false; unsent = true }) refl;
    }

pub sent-flags : (n : ℕ) → Flags (sent n) (sent_u n)
sent-flags n =
    record {
      agrees = λ u b. flags_pick (eqb u.number n) u (record { number = u.number; len = u.len; pending = u.pending; unsent = false }) b;
      keeps = λ u. len_pick (eqb u.number n) u (record { number = u.number; len = u.len; pending = u.pending; unsent = false }) refl;
    }

module _ {f : R.Unacked → R.Unacked} {g : Unacked → Unacked} (F : Flags f g) where
  pub total-flags : (us : List Unacked) → total len_u (map g us) ≡ total len_u us
  unfolding total
  total-flags [] = refl
  total-flags (u ∷ us) = omega (arith, F.keeps u, total-flags us)

  pub cut-flags : (us : List Unacked) (s : Bytes) → cut len_u unacked (map g us) s ≡ map f (cut len_u unacked us s)
  unfolding cut
  cut-flags [] s = refl
  cut-flags (u ∷ us) s =
      ap (λ (k : ℕ). unacked (g u) (take k s) ∷ cut len_u unacked (map g us) (drop k s)) (F.keeps u)
      ∙ ap (λ (m : R.Unacked). m ∷ cut len_u unacked (map g us) (drop u.len s)) (F.agrees u (take u.len s))
      ∙ ap (λ (ms : List R.Unacked). f (unacked u (take u.len s)) ∷ ms) (cut-flags us (drop u.len s))

  -- what a loop keeps that changes the records of x in place: those before index i are changed
  pub record Flagging (x r : Outbox) (i : ℕ) : Type 0 where
    pub full : length x.records ≡ 256
    pub few : x.count ≤ 256
    pub next : r.next ≡ x.next
    pub count : r.count ≡ x.count
    pub within : i ≤ x.count
    pub mapped : Mapped g x.records r.records i

  pub flagging_none : (x : Outbox) → length x.records ≡ 256 → x.count ≤ 256 → Flagging x x 0
  flagging_none x full few =
      record { full = full; few = few; next = refl; count = refl; within = omega arith; mapped = mapped_none g x.records }

  -- the record that a turn looks at is as it was
  pub flagging_at : {x r : Outbox} {i : ℕ} → Flagging x r i → i < x.count → get_or r.records i blank_u ≡ get_or x.records i blank_u
  flagging_at m h = mapped_later m.mapped blank_u (omega (arith, m.full, m.few))

  pub flagging_more : {x r : Outbox} {i : ℕ} → Flagging x r i → i < x.count → (v : Unacked) → v ≡ g (get_or r.records i blank_u)
      → Flagging x (record { next = r.next; records = set r.records i v; count = r.count }) (i + 1)
  flagging_more m h v e =
      record {
        full = m.full;
        few = m.few;
        next = m.next;
        count = m.count;
        within = omega arith;
        mapped = mapped_more m.mapped blank_u v (omega (arith, m.full, m.few)) e;
      }

  pub flagging_all : {x r : Outbox} {i : ℕ} → Flagging x r i → x.count ≤ i → Flagged f x r
  unfolding unacked_of
  flagging_all {x} {r} {i} m h =
      let ei : i ≡ x.count = omega (arith, m.within) in
      let us : used_u r ≡ map g (used_u x) =
      ap (λ (k : ℕ). take k r.records) (m.count ∙ sym ei) ∙ mapped_all m.mapped ∙ ap (λ (k : ℕ). map g (take k x.records)) ei in
      let t : end_u r ≡ end_u x = ap (total len_u) us ∙ total-flags (used_u x) in
      let full : length r.records ≡ 256 = m.mapped.same ∙ m.full in
      record {
        next = m.next;
        ends = t;
        exact = λ size e. record { full = full; few = omega (arith, m.count, m.few); small = omega (arith, e.small); room = e.room };
        unacked = λ o k. ap (λ (l : List Unacked). cut len_u unacked l o) us ∙ cut-flags (used_u x) o;
      }
