-- An ack that lets the oldest messages go, and nothing else: they are dropped at once. Assumes nothing.
use Rattle.std.specs.Prelude.{if◌then◌else◌}
use mathlib.Core.Path.{◌≡◌, refl, sym, ap, ◌∙◌, subst}
use mathlib.Core.Bool.{Bool, true, false}
use mathlib.Core.List.{List, [], ◌∷◌, ◌++◌, append-nil}
use Prim.Native.Nat.{ℕ, suc, ◌+◌, ◌-◌, ◌≤◌, ◌<◌}
use native.Mathlib.Omega.{arith}
use native.Mathlib.Nat.{zero-add}
use lib.ListN.{length, take, drop, set, replicate, length-append, length-take, length-drop, take-append-drop}
use lib.Seq.{slice, get_or-drop, set-get_or, take-take}
use Rattle.stores.specs.Packed.{cut}
use Rattle.stores.specs.Placed.{placed}
use Rattle.stores.proofs.Laws.{length-placed, take-placed-end, drop_placed_ge, placed-none}
use Rattle.stores.proofs.Packs.{slice-none, total-none, total_split, cut-same, drop-cut, length_cut}
use Rattle.rules.specs.Lists.{Bytes, kept, total}
use Rattle.rules.specs.State as R
use Rattle.rules.specs.Acks.{survives}
use Rattle.rules.proofs.Lists.{kept_append}
use Rattle.outbox.specs.declared.Unacked.{Unacked}
use Rattle.outbox.specs.View.{len_u, unacked, used_u, end_u, blank_u, ExactOutbox}
use Rattle.outbox.specs.Records.{survives_u}
use Rattle.outbox.specs.Sweeps.{left}
use Rattle.stores.proofs.Laws.{placed_same}
use Rattle.parts.specs.Seats.{seats}
use Rattle.parts.specs.Parts.{at, unacked_at, outbox_in}
use Rattle.parts.proofs.Seats.{length-seats, seats_of, take-seats}
use Rattle.link_outbox.specs.Tests.{stayer, Bounded}
use Rattle.link_outbox.specs.Steps.{Drops, Shifted, Front}
use Rattle.link_outbox.proofs.Sounds.{used-at, used-length, total-same, take-total}
use Rattle.link_outbox.proofs.Sweeps.{Sweeps, dropped}

-- ---- both sections are moved down

pub shifted_same : (n : ℕ) (l : List ℕ) → Shifted 0 n l l
shifted_same n l =
    record {
      front = λ i h. ap (at l) (sym (zero-add i));
      back = λ i h. ap (λ (j : ℕ). at l (256 + j)) (sym (zero-add i));
      past = record { size = refl; same = λ i h. refl };
    }

-- ---- what a test keeps is what follows the first k

module _ {A : Type 0} (p : A → Bool) where
  none : (l : List A) → length l ≡ 0 → l ≡ []
  none [] e = refl
  none (x ∷ l) e = absurd (omega arith)

  kept-few : (l : List A) → length (kept p l) ≤ length l
  unfolding kept
  kept-few [] = omega arith
  kept-few (x ∷ xs) = go (p x) (kept-few xs)
    where
      go : (t : Bool) → length (kept p xs) ≤ length xs → length (if t then (x ∷ kept p xs) else kept p xs) ≤ suc (length xs)
      go true h = omega arith
      go false h = omega arith

  kept_full : (l : List A) → length (kept p l) ≡ length l → kept p l ≡ l
  unfolding kept
  kept_full [] e = refl
  kept_full (x ∷ xs) e = go (p x) e (kept-few xs) (kept_full xs)
    where
      go : (t : Bool) → length (if t then (x ∷ kept p xs) else kept p xs) ≡ suc (length xs) → length (kept p xs) ≤ length xs → (length (kept p xs) ≡ length xs → kept p xs ≡ xs)
          → (if t then (x ∷ kept p xs) else kept p xs) ≡ x ∷ xs
      go true e f r = ap (λ (l : List A). x ∷ l) (r (omega arith))
      go false e f r = absurd (omega arith)

  kept-drop : (k : ℕ) (l : List A) → length (kept p l) ≡ length (drop k l) → length (kept p (drop k l)) ≡ length (drop k l) → kept p l ≡ drop k l
  kept-drop k l e f =
      let s : kept p l ≡ kept p (take k l) ++ kept p (drop k l) = ap (kept p) (sym (take-append-drop k l)) ∙ kept_append p (take k l) (drop k l) in
      let z : length (kept p (take k l)) ≡ 0 = omega (arith, ap length s, length-append (kept p (take k l)) (kept p (drop k l))) in
      s ∙ ap (λ (x : List A). x ++ kept p (drop k l)) (none (kept p (take k l)) z) ∙ kept_full (drop k l) f

-- ---- as records count it

pub stayer-one : (ack : ℕ) (u : Unacked) → stayer ack u ≤ 1
stayer-one ack u = go (survives_u ack u)
  where
    go : (t : Bool) → (if t then 1 else 0) ≤ 1
    go true = omega arith
    go false = omega arith

pub stayers : (ack : ℕ) (us : List Unacked) (s : Bytes) → total (stayer ack) us ≡ length (kept (survives ack) (cut len_u unacked us s))
unfolding total kept cut
stayers ack [] s = refl
stayers ack (u ∷ us) s = go (survives_u ack u) (unacked u (take u.len s)) (stayers ack us (drop u.len s))
  where
    go : (t : Bool) (m : R.Unacked) → total (stayer ack) us ≡ length (kept (survives ack) (cut len_u unacked us (drop u.len s)))
        → (if t then 1 else 0) + total (stayer ack) us ≡ length (if t then (m ∷ kept (survives ack) (cut len_u unacked us (drop u.len s))) else kept (survives ack) (cut len_u unacked us (drop u.len s)))
    go true m e = omega arith
    go false m e = omega arith

pub stayers_few : (ack : ℕ) (us : List Unacked) → total (stayer ack) us ≤ length us
stayers_few ack us = omega (arith, stayers ack us [], kept-few (survives ack) (cut len_u unacked us []), length_cut len_u unacked us [])

-- ---- the first k messages go

module _ (ack k : ℕ) (w h b : List ℕ) (s : Bytes) (exact : ExactOutbox (outbox_in w h b) (length s)) (f : Front ack k w h b) where
  abbrev us : List Unacked
  us = used_u (outbox_in w h b)

  abbrev d : ℕ
  d = total len_u (take k us)

  abbrev T : ℕ
  T = total len_u us

  sums : d + total len_u (drop k us) ≡ T
  sums = total_split len_u unacked k us

  parted : kept (survives ack) (cut len_u unacked us s) ≡ cut len_u unacked (drop k us) (drop d s)
  parted =
      let c : drop k (cut len_u unacked us s) ≡ cut len_u unacked (drop k us) (drop d s) = drop-cut len_u unacked k us s in
      let n : length us ≡ at w 1 = used-length w h b exact.few in
      let l : length (drop k (cut len_u unacked us s)) ≡ length (cut len_u unacked us s) - k = length-drop k (cut len_u unacked us s) in
      let lc : length (cut len_u unacked us s) ≡ length us = length_cut len_u unacked us s in
      let lk : length (kept (survives ack) (drop k (cut len_u unacked us s))) ≡ total (stayer ack) (drop k us) =
      ap (λ (x : List R.Unacked). length (kept (survives ack) x)) c ∙ sym (stayers ack (drop k us) (drop d s)) in
      kept-drop (survives ack) k (cut len_u unacked us s) (omega (arith, stayers ack us s, f.all)) (omega (arith, f.all, f.later)) ∙ c

  module _ (h' b' : List ℕ) (s' : Bytes) (H : Shifted k (at w 1 - k) h h') (B : Shifted k (at w 1 - k) b b')
      (es : s' ≡ placed s 0 (take (T - d) (drop d s))) where
    one : (i : ℕ) → i < at w 1 - k → unacked_at h' b' i ≡ unacked_at h b (k + i)
    one i r =
        let p1 : at h' i ≡ at h (k + i) = H.front i r in
        let p2 : at h' (256 + i) ≡ at h (256 + (k + i)) = H.back i r in
        let p3 : at b' i ≡ at b (k + i) = B.front i r in
        let p4 : at b' (256 + i) ≡ at b (256 + (k + i)) = B.back i r in
        rw (p1, p2, p3, p4)

    records : take (at w 1 - k) (seats 256 (unacked_at h' b')) ≡ drop k us
    records =
        take-seats (at w 1 - k) 256 (unacked_at h' b') (omega (arith, exact.few))
        ∙ sym
        (seats_of (at w 1 - k) (unacked_at h' b') (drop k us) blank_u
        (length-drop k us ∙ ap (λ (n : ℕ). n - k) (used-length w h b exact.few))
        (λ i r. get_or-drop k us i blank_u ∙ used-at w h b exact.few (k + i) (omega arith) ∙ sym (one i r)))

    moved : length (take (T - d) (drop d s)) ≡ T - d
    moved = simp (length-take, length-drop) (omega (arith, exact.small, exact.room, sums))

    room : 0 + length (take (T - d) (drop d s)) ≤ length s
    room = omega (arith, moved, exact.small, exact.room)

    size : length s' ≡ length s
    size = ap length es ∙ length-placed s 0 (take (T - d) (drop d s)) room

    bodies : cut len_u unacked (drop k us) s' ≡ cut len_u unacked (drop k us) (drop d s)
    bodies =
        let n : total len_u (drop k us) ≡ 0 + length (take (T - d) (drop d s)) = omega (arith, moved, sums) in
        let m : total len_u (drop k us) ≡ T - d = omega (arith, sums) in
        cut-same len_u unacked (drop k us) s' (drop d s) (omega (arith, size, room)) (omega (arith, sums, length-drop d s, exact.small, exact.room))
        (ap (λ (j : ℕ). take j s') n
        ∙ ap (take (0 + length (take (T - d) (drop d s)))) es
        ∙ take-placed-end s 0 (take (T - d) (drop d s)) room
        ∙ ap (λ (j : ℕ). take j (drop d s)) (sym m))

    pub sheds : length h ≡ 772 → length b ≡ 4936 → Sweeps ack (at w 1) h b s h' b' s' (at w 1 - k) (at w 1) (T - d) T
    unfolding left cut kept
    sheds lh lb =
        let rs : List Unacked = seats 256 (unacked_at h' b') in
        let z : total len_u (slice (at w 1) (at w 1) (seats 256 (unacked_at h' b'))) ≡ 0 = total-none len_u (seats 256 (unacked_at h' b')) (at w 1) (at w 1) (omega arith) in
        record {
          halves = H.past.size ∙ lh;
          bytes = B.past.size ∙ lb;
          past-halves = H.past;
          past_bytes = B.past;
          turns =
              record {
                sweeping =
                    record {
                      full = length-seats 256 (unacked_at h' b');
                      few = exact.few;
                      order = omega arith;
                      within = omega arith;
                      front = ap (total len_u) records ∙ omega (arith, sums);
                      down = omega arith;
                      room = omega (arith, size, exact.small, exact.room);
                    };
                same =
                    ap (λ (l : List Unacked). cut len_u unacked (take (at w 1 - k) (seats 256 (unacked_at h' b'))) s' ++ kept (survives ack) (cut len_u unacked l (drop T s')))
                    (slice-none (seats 256 (unacked_at h' b')) (at w 1) (at w 1) (omega arith))
                    ∙ append-nil (cut len_u unacked (take (at w 1 - k) (seats 256 (unacked_at h' b'))) s')
                    ∙ ap (λ (l : List Unacked). cut len_u unacked l s') records
                    ∙ bodies
                    ∙ sym parted;
                ending = omega arith;
                past = past_end;
                size = size;
              };
        }
      where
        past_end : drop (0 + T) s' ≡ drop (0 + T) s
        past_end = ap (drop (0 + T)) es ∙ drop_placed_ge s 0 (take (T - d) (drop d s)) room (0 + T) (omega (arith, moved))

-- ---- as the code has it

module _ (w h b : List ℕ) (k : ℕ) (few : at w 1 ≤ 256) (within : k ≤ at w 1) where
  pub from_is : total len_u (seats k (unacked_at h b)) ≡ total len_u (take k (used_u (outbox_in w h b)))
  from_is =
      ap (total len_u)
      (sym (take-seats k 256 (unacked_at h b) (omega arith)) ∙ sym (take-take k (at w 1) (seats 256 (unacked_at h b)) within))

  pub from-within : total len_u (seats k (unacked_at h b)) ≤ total len_u (seats (at w 1) (unacked_at h b))
  from-within =
      omega (arith, from_is, take-total (unacked_at h b) (at w 1) few, total_split len_u unacked k (used_u (outbox_in w h b)))

  pub bounded_front : end_u (outbox_in w h b) ≤ 65536 → Bounded h k
  bounded_front small =
      record {
        few = omega arith;
        small = λ c. omega (arith, from-within, take-total (unacked_at h b) (at w 1) few, total-same k (unacked_at h b) (unacked_at h c) (λ i. refl));
      }

module _ (ack : ℕ) (w h b : List ℕ) (s : Bytes) (exact : ExactOutbox (outbox_in w h b) (length s)) (lw : length w ≡ 1296) (lh : length h ≡ 772) (lb : length b ≡ 4936) where
  pub shed_all : (k : ℕ) → Front ack k w h b → (h' b' : List ℕ) → Shifted k (at w 1 - k) h h' → Shifted k (at w 1 - k) b b'
      → (from end : ℕ) → from ≡ total len_u (seats k (unacked_at h b)) → end ≡ total len_u (seats (at w 1) (unacked_at h b))
      → (s' o : Bytes) → s' ≡ placed s 0 (take (end - from) (drop from s)) → o ≡ placed s' (end - from) (replicate (end - (end - from)) 0)
      → Drops ack w h b s (set w 1 (at w 1 - k)) h' b' o
  shed_all k f h' b' H B from end ef ee s' o es eo =
      let d : ℕ = total len_u (take k (used_u (outbox_in w h b))) in
      let T : ℕ = total len_u (used_u (outbox_in w h b)) in
      let e1 : from ≡ total len_u (take k (used_u (outbox_in w h b))) = ef ∙ from_is w h b k exact.few (omega (arith, f.all)) in
      let e2 : end ≡ total len_u (used_u (outbox_in w h b)) = ee ∙ sym (take-total (unacked_at h b) (at w 1) exact.few) in
      let g : Sweeps ack (at w 1) h b s h' b' s' (at w 1 - k) (at w 1) (total len_u (used_u (outbox_in w h b)) - total len_u (take k (used_u (outbox_in w h b)))) (total len_u (used_u (outbox_in w h b))) =
      sheds ack k w h b s exact f h' b' s' H B (es ∙ ap (λ (j : ℕ). placed s 0 (take (j - from) (drop from s))) e2 ∙ ap (λ (j : ℕ). placed s 0 (take (T - j) (drop j s))) e1) lh lb in
      dropped ack w h b s exact lw h' b' s' (at w 1 - k) (at w 1) (T - d) T g (omega arith) o
      (eo ∙ ap (λ (j : ℕ). placed s' (j - from) (replicate (j - (j - from)) 0)) e2 ∙ ap (λ (j : ℕ). placed s' (T - j) (replicate (T - (T - j)) 0)) e1)

  pub stay-within : total (stayer ack) (used_u (outbox_in w h b)) ≤ at w 1
  stay-within = omega (arith, stayers_few ack (used_u (outbox_in w h b)), used-length w h b exact.few)

  nothing : 0 ≡ total len_u (seats 0 (unacked_at h b))
  unfolding total seats
  nothing = refl

  -- none goes
  pub shed_none : total (stayer ack) (used_u (outbox_in w h b)) ≡ at w 1 → Drops ack w h b s w h b s
  shed_none all =
      let T : ℕ = total len_u (seats (at w 1) (unacked_at h b)) in
      let room : 0 + T ≤ length s = omega (arith, take-total (unacked_at h b) (at w 1) exact.few, exact.small, exact.room) in
      let n : at w 1 - 0 ≡ at w 1 = omega arith in
      let m : T - 0 ≡ T = omega arith in
      let z : T - (T - 0) ≡ 0 = omega arith in
      let r : Drops ack w h b s (set w 1 (at w 1 - 0)) h b s =
      shed_all 0 (record { all = omega arith; later = refl }) h b (shifted_same (at w 1 - 0) h) (shifted_same (at w 1 - 0) b) 0 T nothing refl s s
      (placed_same s 0 T room ∙ ap (λ (j : ℕ). placed s 0 (take j (drop 0 s))) (sym m))
      (sym (ap (λ (j : ℕ). placed s (T - 0) (replicate j 0)) z ∙ placed-none s (T - 0))) in
      subst (λ (x : List ℕ). Drops ack w h b s x h b s) (ap (set w 1) n ∙ set-get_or w 1 0) r
