-- The view: how records and messages go together, and when both are sound. Assumes nothing.
use mathlib.Core.Path.{◌≡◌, refl, sym, ap, ◌∙◌}
use mathlib.Core.Bool.{Bool, true, ◌&&◌}
use mathlib.Core.List.{List, [], ◌∷◌, ◌++◌, map}
use Prim.Native.Nat.{ℕ, ◌-◌, ◌≤◌}
use native.Mathlib.Omega.{arith}
use lib.ListN.{length, take, drop, length-drop}
use lib.Seq.{length-take-le}
use lib.Dec.{leb, ltb}
use borrow.Author.Tests.{le-leb, leb-true}
use Rattle.std.proofs.lemmas.Bool.{and_parts}
use Rattle.stores.specs.Packed.{cut}
use Rattle.stores.proofs.Packs.{Packing, cut-packed, map-cut, length_cut, packed-cut, cut-same}
use Rattle.rules.specs.Buffers.{repacked}
use Rattle.rules.proofs.Buffers.{repacked-same}
use Rattle.rules.specs.Lists.{Bytes, all, total, packed, rising}
use Rattle.rules.specs.State as R
use Rattle.rules.specs.State.{number_of, size_of, body_of}
use Rattle.rules.specs.Sound.{number_below}
use Rattle.rules.proofs.Lists.{and_both}
use Rattle.rules.proofs.Outboxes as Out
use Rattle.outbox.specs.declared.Unacked.{Unacked}
use Rattle.outbox.specs.declared.Outbox.{Outbox}
use Rattle.outbox.specs.View.{num_u, len_u, unacked, record_u, used_u, unacked_of, outbox_of, end_u, ExactOutbox}
use Rattle.outbox.specs.Sound.{sound_unacked, sound_outbox_of}
use Rattle.outbox.specs.Records.{below_u}
use Rattle.outbox.proofs.Sounds.{FitU, admitted_fit, fit_admitted}

-- ---- records and messages

pub pack_u : Packing len_u unacked record_u body_of
pack_u =
    record {
      size_rec = λ m. refl;
      make_rec = λ m. refl;
      rec_make = λ u b e. ap {B = Unacked} (λ (n : ℕ). record { number = u.number; len = n; pending = u.pending; unsent = u.unsent }) e;
      body_make = λ u b. refl;
    }

-- what is said of numbers is the same of records and of messages
pub rising-cut : (last : ℕ) (us : List Unacked) (s : Bytes) → rising number_of last (cut len_u unacked us s) ≡ rising num_u last us
unfolding rising cut
rising-cut last [] s = refl
rising-cut last (u ∷ us) s = ap (λ (b : Bool). ltb last u.number && b) (rising-cut u.number us (drop u.len s))

pub below-cut : (next : ℕ) (us : List Unacked) (s : Bytes) → all (number_below next) (cut len_u unacked us s) ≡ all (below_u next) us
unfolding all cut
below-cut next [] s = refl
below-cut next (u ∷ us) s = ap (λ (b : Bool). ltb u.number next && b) (below-cut next us (drop u.len s))

pub total-cut : (us : List Unacked) (s : Bytes) → total len_u us ≤ length s → total size_of (cut len_u unacked us s) ≡ total len_u us
unfolding total cut
total-cut [] s h = refl
total-cut (u ∷ us) s h =
    let lt : length (take u.len s) ≡ u.len = length-take-le u.len s (omega arith) in
    let ld : length (drop u.len s) ≡ length s - u.len = length-drop u.len s in
    let r : total size_of (cut len_u unacked us (drop u.len s)) ≡ total len_u us = total-cut us (drop u.len s) (omega arith) in
    omega arith

-- ---- what an exact outbox holds

-- the bodies, packed
pub packed-unacked : (x : Outbox) (o : Bytes) → packed body_of (unacked_of x o) ≡ take (end_u x) o
unfolding unacked_of
packed-unacked x o = packed-cut len_u unacked body_of (λ u b. refl) (used_u x) o

-- a store whose bodies stay is as it was
pub stays-packed : (x : Outbox) (o : Bytes) → ExactOutbox x (length o) → o ≡ repacked (end_u x) (packed body_of (unacked_of x o)) o
stays-packed x o e =
    sym (repacked-same (end_u x) (packed body_of (unacked_of x o)) o (packed-unacked x o) (ap length (packed-unacked x o) ∙ length-take-le (end_u x) o (omega (arith, e))))

-- bytes past the bodies do not matter
pub unacked-only : (x : Outbox) (s t : Bytes) → end_u x ≤ length s → end_u x ≤ length t → take (end_u x) s ≡ take (end_u x) t → unacked_of x s ≡ unacked_of x t
unfolding unacked_of
unacked-only x s t h k e = cut-same len_u unacked (used_u x) s t h k e

-- what holds the records of some messages, with a store that begins with their bodies, holds these messages
pub unacked_of_view : (x : Outbox) (o : Bytes) (ms : List R.Unacked) (t : Bytes) → used_u x ≡ map record_u ms → o ≡ packed body_of ms ++ t → unacked_of x o ≡ ms
unfolding unacked_of
unacked_of_view x o ms t e eo =
    ap (λ (us : List Unacked). cut len_u unacked us o) e ∙ ap (λ (s : Bytes). cut len_u unacked (map record_u ms) s) eo ∙ cut-packed pack_u ms t

module _ (x : Outbox) (o : Bytes) (exact : ExactOutbox x (length o)) where
  pub exact-count : x.count ≡ length (unacked_of x o)
  unfolding unacked_of
  exact-count = sym (length_cut len_u unacked (used_u x) o ∙ length-take-le x.count x.records (omega arith))

  pub exact-records : used_u x ≡ map record_u (unacked_of x o)
  unfolding unacked_of
  exact-records = sym (map-cut pack_u (used_u x) o (omega arith))

  pub exact-total : end_u x ≡ total size_of (unacked_of x o)
  unfolding unacked_of
  exact-total = sym (total-cut (used_u x) o (omega arith))

-- ---- a sound outbox, by its records and by the rule book

pub record SoundU (x : Outbox) : Type 0 where
  pub few : x.count ≤ 256
  pub one : 1 ≤ x.next
  pub end : x.next ≤ 4294967296
  pub order : rising num_u 0 (used_u x) ≡ true
  pub below : all (below_u x.next) (used_u x) ≡ true
  pub small : end_u x ≤ 65536

pub sound_facts : (x : Outbox) → sound_outbox_of x ≡ true → SoundU x
unfolding sound_outbox_of sound_unacked
sound_facts x e =
    let a = and_parts (leb x.count 256) _ e in
    let b = and_parts (leb 1 x.next) _ a.1 in
    let c = and_parts (leb x.next 4294967296) _ b.1 in
    let f : FitU x.next 0 0 (used_u x) = admitted_fit x.next 0 0 (used_u x) (omega arith) c.1 in
    record {
      few = leb-true _ _ a.0;
      one = leb-true _ _ b.0;
      end = leb-true _ _ c.0;
      order = f.order;
      below = f.below;
      small = omega (arith, f.small);
    }

pub facts_sound : (x : Outbox) → SoundU x → sound_outbox_of x ≡ true
unfolding sound_outbox_of sound_unacked
facts_sound x f =
    let g : FitU x.next 0 0 (used_u x) = record { order = f.order; below = f.below; small = omega (arith, f.small) } in
    and_both (leb x.count 256) _ (le-leb _ _ f.few)
    (and_both (leb 1 x.next) _ (le-leb _ _ f.one)
    (and_both (leb x.next 4294967296) _ (le-leb _ _ f.end) (fit_admitted x.next 0 0 (used_u x) g)))

pub sound-outbox-good : (x : Outbox) (o : Bytes) → sound_outbox_of x ≡ true → length x.records ≡ 256 → 65536 ≤ length o
    → Out.Good (outbox_of x o) × ExactOutbox x (length o)
unfolding unacked_of
sound-outbox-good x o e full room =
    let f : SoundU x = sound_facts x e in
    let exact : ExactOutbox x (length o) = record { full = full; few = f.few; small = f.small; room = room } in
    let n : x.count ≡ length (unacked_of x o) = exact-count x o exact in
    let t : end_u x ≡ total size_of (unacked_of x o) = exact-total x o exact in (
      record {
        one = f.one;
        end = f.end;
        order = rising-cut 0 (used_u x) o ∙ f.order;
        below = below-cut x.next (used_u x) o ∙ f.below;
        few = omega (arith, f.few);
        small = omega (arith, f.small);
      },
      exact,
    )

-- and back: an exact outbox whose view is good is sound
pub good-sound-outbox : (x : Outbox) (o : Bytes) → ExactOutbox x (length o) → Out.Good (outbox_of x o) → sound_outbox_of x ≡ true
unfolding unacked_of
good-sound-outbox x o exact g =
    facts_sound x
    (record {
      few = exact.few;
      one = g.one;
      end = g.end;
      order = sym (rising-cut 0 (used_u x) o) ∙ g.order;
      below = sym (below-cut x.next (used_u x) o) ∙ g.below;
      small = exact.small;
    })
