-- A queue that rises, its next frame, and the rule book's turn by its tests. Assumes nothing.
use Rattle.std.specs.Prelude.{if◌then◌else◌}
use mathlib.Core.Path.{◌≡◌, refl, sym, ap, ◌∙◌, subst}
use mathlib.Core.Bool.{Bool, true, false, not}
use mathlib.Core.List.{List, [], ◌∷◌, ◌++◌}
use mathlib.Core.Option.{Option, none, some}
use Prim.Native.Nat.{ℕ, zero, suc, ◌+◌, ◌≤◌, ◌<◌}
use native.Mathlib.Omega.{arith}
use native.Mathlib.Numerals.{add-one}
use lib.ListN.{length, take, drop, get_or, set, length-take, length-drop, length-set}
use lib.Seq.{slice, drop-drop, length-take-le, take-suc, get_or-take}
use lib.Dec.{ltb, leb}
use borrow.Author.Tests.{ltb-true, leb-true, lt-ltb, le-leb, eq-eqb, ne_eqb}
use Rattle.stores.specs.Packed.{cut}
use Rattle.stores.proofs.Packs.{slice-step, drop-cut, total_snoc, take_set_snoc}
use Rattle.rules.specs.declared.HostStatus.{HostStatus}
use Rattle.rules.specs.Lists.{Bytes, kept, all, first, total, put, rising, itself}
use Rattle.rules.specs.State as R
use Rattle.rules.specs.State.{frame_number, frame_size, is_frame}
use Rattle.rules.specs.Sound.{at_most}
use Rattle.rules.specs.Progress.{Progress, stays, ◌then◌}
use Rattle.rules.specs.Receiving.{available, deliverable, up_to, other_than, deliver, drain_frame, next_frame, drain_turn, drains}
use Rattle.rules.proofs.Lists.{if_rule, and_left, and_right, and_both, put_last}
use Rattle.numbers.specs.declared.Numbers.{Numbers}
use Rattle.numbers.specs.Seats.{in_use, ExactNumbers}
use Rattle.queue.specs.declared.Queued.{Queued}
use Rattle.queue.specs.declared.Queue.{Queue}
use Rattle.queue.specs.View.{len_q, frame, blank_q, used_q, frames_of, ExactQueue}
use Rattle.queue.proofs.Changes.{start-within}

-- ---- the rule book's turn, by its tests

module _ (status : HostStatus) (st : R.State) where
  pub turn_off : available status st ≡ false → (k : ℕ) → drains k status st ≡ stays st
  unfolding drains drain_turn
  turn_off e zero = refl
  turn_off e (suc k) = ap (λ (t : Bool). if t then drain_frame (next_frame st) (drains k status) st else stays st) e

  pub turn-none : next_frame st ≡ none → (k : ℕ) → drains k status st ≡ stays st
  unfolding drains drain_turn
  turn-none e zero = refl
  turn-none e (suc k) =
      ap (λ (x : Option R.Frame). if available status st then drain_frame x (drains k status) st else stays st) e
      ∙ if_rule (λ (p : Progress). p ≡ stays st) (available status st) (stays st) (stays st) (λ a. refl) (λ a. refl)

  pub turn_not : (f : R.Frame) → next_frame st ≡ some f → deliverable f st ≡ false → (k : ℕ) → drains k status st ≡ stays st
  unfolding drains drain_turn
  turn_not f e d zero = refl
  turn_not f e d (suc k) =
      ap (λ (x : Option R.Frame). if available status st then drain_frame x (drains k status) st else stays st) e
      ∙ ap (λ (t : Bool). if available status st then (if t then (deliver f st then drains k status) else stays st) else stays st) d
      ∙ if_rule (λ (p : Progress). p ≡ stays st) (available status st) (stays st) (stays st) (λ a. refl) (λ a. refl)

  pub turn-goes : (f : R.Frame) → available status st ≡ true → next_frame st ≡ some f → deliverable f st ≡ true → (k : ℕ)
      → drains (suc k) status st ≡ (deliver f st then drains k status)
  unfolding drains drain_turn
  turn-goes f a e d k =
      ap (λ (t : Bool). if t then drain_frame (next_frame st) (drains k status) st else stays st) a
      ∙ ap (λ (x : Option R.Frame). drain_frame x (drains k status) st) e
      ∙ ap (λ (t : Bool). if t then (deliver f st then drains k status) else stays st) d

-- ---- a queue that rises

kept_above : (n m : ℕ) (fs : List R.Frame) → n ≤ m → rising frame_number m fs ≡ true → kept (other_than n) fs ≡ fs
unfolding kept rising
kept_above n m [] h e = refl
kept_above n m (f ∷ fs) h e =
    let lt : m < f.number = ltb-true m f.number (and_left (ltb m f.number) _ e) in
    let ne : f.number ≡ n → ⊥ = λ z. absurd (omega arith) in
    ap (λ (t : Bool). if not t then (f ∷ kept (other_than n) fs) else kept (other_than n) fs) (ne_eqb f.number n ne)
    ∙ ap (λ (l : List R.Frame). f ∷ l) (kept_above n f.number fs (omega arith) (and_right (ltb m f.number) _ e))

first_above : (k m : ℕ) (fs : List R.Frame) → k ≤ m → rising frame_number m fs ≡ true → first (is_frame k) fs ≡ none
unfolding first rising
first_above k m [] h e = refl
first_above k m (f ∷ fs) h e =
    let lt : m < f.number = ltb-true m f.number (and_left (ltb m f.number) _ e) in
    let ne : f.number ≡ k → ⊥ = λ z. absurd (omega arith) in
    ap (λ (t : Bool). if t then some f else first (is_frame k) fs) (ne_eqb f.number k ne)
    ∙ first_above k f.number fs (omega arith) (and_right (ltb m f.number) _ e)

pub first-nothing : (k : ℕ) (fs : List R.Frame) → fs ≡ [] → first (is_frame k) fs ≡ none
unfolding first
first-nothing k fs e = ap (first (is_frame k)) e

module _ (r : ℕ) (f : R.Frame) (fs : List R.Frame) (e : rising frame_number r (f ∷ fs) ≡ true) where
  pub head-above : r < f.number
  unfolding rising
  head-above = ltb-true r f.number (and_left (ltb r f.number) _ e)

  pub tail_above : rising frame_number f.number fs ≡ true
  unfolding rising
  tail_above = and_right (ltb r f.number) _ e

  -- the frame that is delivered is the first
  pub kept-head : kept (other_than f.number) (f ∷ fs) ≡ fs
  unfolding kept
  kept-head =
      ap (λ (t : Bool). if not t then (f ∷ kept (other_than f.number) fs) else kept (other_than f.number) fs) (eq-eqb f.number f.number refl)
      ∙ kept_above f.number f.number fs (omega arith) tail_above

  -- the next one is the first, or not there
  pub next-none : (f.number ≡ r + 1 → ⊥) → first (is_frame (r + 1)) (f ∷ fs) ≡ none
  unfolding first
  next-none ne =
      let lt : r < f.number = head-above in
      ap (λ (t : Bool). if t then some f else first (is_frame (r + 1)) fs) (ne_eqb f.number (r + 1) ne)
      ∙ first_above (r + 1) f.number fs (omega arith) tail_above

  pub next_some : f.number ≡ r + 1 → first (is_frame (r + 1)) (f ∷ fs) ≡ some f
  unfolding first
  next_some h = ap (λ (t : Bool). if t then some f else first (is_frame (r + 1)) fs) (eq-eqb f.number (r + 1) h)

-- ---- the frame at an index

pub part-size : (s : Bytes) (a n : ℕ) → a + n ≤ length s → length (take n (drop a s)) ≡ n
part-size s a n h = length-take-le n (drop a s) (simp length-drop (omega arith))

all_drop : {A : Type 0} (p : A → Bool) (i : ℕ) (xs : List A) → all p xs ≡ true → all p (drop i xs) ≡ true
unfolding all
all_drop p zero xs h = h
all_drop p (suc i) [] h = h
all_drop p (suc i) (x ∷ xs) h = all_drop p i xs (and_right (p x) (all p xs) h)

abbrev pub queue_record_at : Queue → ℕ → Queued
queue_record_at x i = get_or x.records i blank_q

-- with its body, which starts at byte a
abbrev pub frame_at : Queue → ℕ → ℕ → Bytes → R.Frame
frame_at x i a q = frame (queue_record_at x i) (take (queue_record_at x i).len (drop a q))

module _ (x : Queue) (q : Bytes) (ex : ExactQueue x (length q)) (i a : ℕ) (ea : a ≡ total len_q (take i (used_q x))) (h : i < x.count) where
  pub start-on : a + (queue_record_at x i).len ≡ total len_q (take (i + 1) (used_q x))
  start-on =
      let n : i < length (used_q x) = simp length-take (omega (arith, ex.full, ex.few)) in
      let e : take (i + 1) (used_q x) ≡ take i (used_q x) ++ (queue_record_at x i ∷ []) =
      ap (λ (k : ℕ). take k (used_q x)) (add-one i)
      ∙ take-suc (used_q x) i blank_q n
      ∙ ap (λ (v : Queued). take i (used_q x) ++ (v ∷ [])) (get_or-take x.count x.records i blank_q h) in
      ap (λ (k : ℕ). k + (queue_record_at x i).len) ea ∙ sym (total_snoc len_q (take i (used_q x)) (queue_record_at x i)) ∙ ap (total len_q) (sym e)

  pub start_small : a + (queue_record_at x i).len ≤ 32768
  start_small = omega (arith, start-on, start-within x (i + 1), ex.small)

  pub frames-step : drop i (frames_of x q)
      ≡ frame_at x i a q ∷ drop (i + 1) (frames_of x q)
  unfolding frames_of cut
  frames-step =
      let y : List R.Frame = cut len_q frame (slice (i + 1) x.count x.records) (drop (queue_record_at x i).len (drop a q)) in
      let e : drop i (cut len_q frame (used_q x) q) ≡ frame_at x i a q ∷ y =
      drop-cut len_q frame i (used_q x) q
      ∙ ap (λ (k : ℕ). cut len_q frame (drop i (used_q x)) (drop k q)) (sym ea)
      ∙ ap (λ (l : List Queued). cut len_q frame l (drop a q)) (slice-step x.records i x.count blank_q h (omega (arith, ex.full, ex.few))) in
      e ∙ ap (λ (l : List R.Frame). frame_at x i a q ∷ l) (sym (ap (drop 1) e) ∙ drop-drop 1 i (cut len_q frame (used_q x) q))

  pub body-size : length (frame_at x i a q).body ≡ (queue_record_at x i).len
  body-size = part-size q a (queue_record_at x i).len (omega (arith, start_small, ex.room))

  pub size_step : total frame_size (drop i (frames_of x q)) ≡ (queue_record_at x i).len + total frame_size (drop (i + 1) (frames_of x q))
  unfolding total
  size_step = ap (total frame_size) frames-step ∙ ap (λ (k : ℕ). k + total frame_size (drop (i + 1) (frames_of x q))) body-size

  pub number-last : all (up_to 18446744073709551614) (frames_of x q) ≡ true → (queue_record_at x i).number ≤ 18446744073709551614
  unfolding all
  number-last l =
      let e : all (up_to 18446744073709551614) (frame_at x i a q ∷ drop (i + 1) (frames_of x q)) ≡ true =
      subst (λ (fs : List R.Frame). all (up_to 18446744073709551614) fs ≡ true) frames-step (all_drop (up_to 18446744073709551614) i (frames_of x q) l) in
      leb-true (queue_record_at x i).number 18446744073709551614 (and_left (leb (queue_record_at x i).number 18446744073709551614) _ e)

-- ---- an ack above those that wait

all-below : (m n : ℕ) (ns : List ℕ) → m < n → all (at_most m) ns ≡ true → all (λ x. ltb (itself x) (itself n)) ns ≡ true
unfolding all
all-below m n [] l h = refl
all-below m n (k ∷ ns) l h =
    let b : k ≤ m = leb-true k m (and_left (leb k m) (all (at_most m) ns) h) in
    and_both (ltb k n) _ (lt-ltb k n (omega arith)) (all-below m n ns l (and_right (leb k m) (all (at_most m) ns) h))

all_and_last : (m n : ℕ) (ns : List ℕ) → m < n → all (at_most m) ns ≡ true → all (at_most n) (ns ++ (n ∷ [])) ≡ true
unfolding all
all_and_last m n [] l h = and_both (leb n n) true (le-leb n n (omega arith)) refl
all_and_last m n (k ∷ ns) l h =
    let b : k ≤ m = leb-true k m (and_left (leb k m) (all (at_most m) ns) h) in
    and_both (leb k n) _ (le-leb k n (omega arith)) (all_and_last m n ns l (and_right (leb k m) (all (at_most m) ns) h))

abbrev pub with_last : ℕ → Numbers → Numbers
with_last n w = record { values = set w.values w.count n; count = w.count + 1 }

module _ (w : Numbers) (ex : ExactNumbers w) (c : w.count < 512) (m n : ℕ) (l : m < n) (b : all (at_most m) (in_use w) ≡ true) where
  use_more : in_use (with_last n w) ≡ in_use w ++ (n ∷ [])
  use_more = take_set_snoc w.values w.count n (omega (arith, ex.full))

  pub put_more : put itself n (in_use w) ≡ in_use (with_last n w)
  put_more = put_last itself n (in_use w) (all-below m n (in_use w) l b) ∙ sym use_more

  pub exact_more : ExactNumbers (with_last n w)
  exact_more = record { full = length-set w.values w.count n ∙ ex.full; few = omega arith }

  pub behind_more : all (at_most n) (in_use (with_last n w)) ≡ true
  behind_more = subst (λ (ns : List ℕ). all (at_most n) ns ≡ true) (sym use_more) (all_and_last m n (in_use w) l b)
