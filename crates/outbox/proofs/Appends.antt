-- One message more, and none. Assumes nothing.
use mathlib.Core.Path.{◌≡◌, refl, sym, ap, ◌∙◌}
use mathlib.Core.Bool.{true, false}
use mathlib.Core.List.{List, [], ◌∷◌, ◌++◌, append_assoc, append-nil}
use Prim.Native.Nat.{ℕ, ◌+◌, ◌-◌, ◌≤◌}
use native.Mathlib.Omega.{arith}
use native.Mathlib.Nat.{zero-add, sub-zero}
use lib.ListN.{length, take, drop, set, replicate, length-append, length-set, length-replicate}
use lib.Seq.{take-append_seam, length-take-le}
use Rattle.stores.specs.Packed.{cut}
use Rattle.rules.specs.Buffers.{repacked}
use Rattle.stores.specs.Placed.{placed}
use Rattle.stores.proofs.Laws.{length-placed, take_placed_le, drop-placed}
use Rattle.stores.proofs.Packs.{take_set_snoc, total_snoc, cut-append, cut-same, repacked-grown, repacked_shrunk}
use Rattle.rules.specs.Lists.{Bytes, packed, total}
use Rattle.rules.specs.State as R
use Rattle.rules.specs.State.{body_of}
use Rattle.rules.specs.Sending.{fresh}
use Rattle.rules.proofs.Lists.{packed-append}
use Rattle.outbox.specs.declared.Unacked.{Unacked}
use Rattle.outbox.specs.declared.Outbox.{Outbox}
use Rattle.outbox.specs.View.{len_u, unacked, used_u, unacked_of, end_u, ExactOutbox}
use Rattle.outbox.specs.Steps.{Appended, Left, Room}
use Rattle.outbox.proofs.View.{packed-unacked}

module _ (x : Outbox) (o b o' : Bytes) (at : ℕ) (room : Room x (length o) at (length b)) (e : o' ≡ placed o at b) where
  -- where the bodies end
  T : ℕ
  T = end_u x

  abbrev one : Unacked
  one = record { number = x.next; len = length b; pending = true; unsent = false }

  fits : T + length b ≤ length o
  unfolding T
  fits = omega (arith, room.used, room.short, room.exact.room)

  here : o' ≡ placed o T b
  unfolding T
  here = e ∙ ap (λ (k : ℕ). placed o k b) room.used

  used-one : take (x.count + 1) (set x.records x.count one) ≡ used_u x ++ (one ∷ [])
  used-one = take_set_snoc x.records x.count one (omega (arith, room.exact.full, room.few))

  total-one : total len_u (take (x.count + 1) (set x.records x.count one)) ≡ T + length b
  unfolding T
  total-one = ap (total len_u) used-one ∙ total_snoc len_u (used_u x) one

  same_size : length o' ≡ length o
  same_size = ap length here ∙ length-placed o T b fits

  held_one : cut len_u unacked (take (x.count + 1) (set x.records x.count one)) o' ≡ unacked_of x o ++ (fresh x.next b ∷ [])
  unfolding T unacked_of cut
  held_one =
      let f : T + length b ≤ length o = fits in
      let l : length o' ≡ length o = same_size in
      let et : take T o' ≡ take T o = ap (take T) here ∙ take_placed_le o T b fits T (omega arith) in
      let ed : drop T o' ≡ b ++ drop (T + length b) o = ap (drop T) here ∙ drop-placed o T b fits in
      ap (λ (us : List Unacked). cut len_u unacked us o') used-one
      ∙ cut-append len_u unacked (used_u x) (one ∷ []) o'
      ∙ ap (λ (ms : List R.Unacked). ms ++ (unacked one (take (length b) (drop T o')) ∷ [])) (cut-same len_u unacked (used_u x) o' o (omega arith) (omega arith) et)
      ∙ ap (λ (s : Bytes). cut len_u unacked (used_u x) o ++ (unacked one s ∷ [])) (ap (take (length b)) ed ∙ take-append_seam b (drop (T + length b) o))

  -- every byte of the store
  bytes_one : o' ≡ repacked (end_u x) (packed body_of (unacked_of x o ++ (fresh x.next b ∷ []))) o
  unfolding T placed packed
  bytes_one =
      let f : T + length b ≤ length o = fits in
      let p : packed body_of (unacked_of x o ++ (fresh x.next b ∷ [])) ≡ take T o ++ b =
      packed-append body_of (unacked_of x o) (fresh x.next b ∷ [])
      ∙ ap (λ (s : Bytes). packed body_of (unacked_of x o) ++ s) (append-nil b)
      ∙ ap (λ (s : Bytes). s ++ b) (packed-unacked x o) in
      let lt : length (take T o) ≡ T = length-take-le T o (omega arith) in
      let lp : length (take T o ++ b) ≡ T + length b = length-append (take T o) b ∙ ap (λ (k : ℕ). k + length b) lt in
      here
      ∙ sym (append_assoc (take T o) b (drop (T + length b) o))
      ∙ ap (λ (k : ℕ). (take T o ++ b) ++ drop k o) (sym lp)
      ∙ sym (repacked-grown T (take T o ++ b) o (omega arith))
      ∙ ap (λ (s : Bytes). repacked T s o) (sym p)

  pub appended : Appended x o b (record { next = x.next + 1; records = set x.records x.count (record { number = x.next; len = length b; pending = true; unsent = false }); count = x.count + 1 }) o'
  unfolding T unacked_of
  appended =
      let t : total len_u (take (x.count + 1) (set x.records x.count one)) ≡ T + length b = total-one in
      let l : length o' ≡ length o = same_size in
      record {
        repacked =
            record {
              unacked = held_one;
              exact =
                  record {
                    full = length-set x.records x.count one ∙ room.exact.full;
                    few = omega (arith, room.few);
                    small = omega (arith, room.used, room.short);
                    room = omega (arith, room.exact.room);
                  };
              bytes = bytes_one;
              size = l;
            };
        next = refl;
      }

-- all messages go
pub discarded : (x : Outbox) (o o' : Bytes) → ExactOutbox x (length o) → (end : ℕ) → end ≡ end_u x → o' ≡ placed o 0 (replicate (end - 0) 0)
    → Left x o [] (record { next = x.next; records = x.records; count = 0 }) o'
unfolding unacked_of cut total packed placed
discarded x o o' exact end ee e =
    let z : length {A = ℕ} (replicate (end_u x) 0) ≡ end_u x = length-replicate (end_u x) 0 in
    let b : o' ≡ replicate (end_u x) 0 ++ drop (end_u x) o =
    e
    ∙ ap (λ (k : ℕ). replicate k 0 ++ drop (0 + length {A = ℕ} (replicate k 0)) o) (sub-zero end ∙ ee)
    ∙ ap (λ (k : ℕ). replicate (end_u x) 0 ++ drop k o) (zero-add (length {A = ℕ} (replicate (end_u x) 0)) ∙ z) in
    let l : length o' ≡ length o = ap length e ∙ length-placed o 0 (replicate (end - 0) 0) (omega (arith, length-replicate {A = ℕ} (end - 0) 0, exact.small, exact.room)) in
    record {
      repacked =
          record {
            unacked = refl;
            exact = record { full = exact.full; few = omega arith; small = omega arith; room = omega (arith, exact.room) };
            bytes =
                b ∙ ap (λ (k : ℕ). replicate k 0 ++ drop (end_u x) o) (sym (sub-zero (end_u x))) ∙ sym (repacked_shrunk (end_u x) [] o (omega arith));
            size = l;
          };
      next = refl;
    }
