-- Whether data is delivered now or waits, and what the rule book makes of either. Assumes nothing.
use Rattle.std.specs.Prelude.{if◌then◌else◌}
use mathlib.Core.Path.{◌≡◌, refl, sym, ap, ◌∙◌}
use mathlib.Core.Bool.{Bool, true, false, not, ◌&&◌, ◌||◌}
use mathlib.Core.List.{List, [], ◌∷◌}
use Prim.Native.Nat.{ℕ, ◌+◌, ◌-◌, ◌≤◌, ◌<◌}
use native.Mathlib.Omega.{arith}
use lib.ListN.{length}
use lib.Dec.{leb, ltb, eqb}
use borrow.Author.Tests.{eq-eqb, ne_eqb, eqb-true, eqb-false, ltb-true, lt-ltb, le-ltb, le-leb}
use Rattle.rules.specs.declared.HostStatus.{HostStatus}
use Rattle.rules.specs.Lists.{every, kept, rising}
use Rattle.rules.specs.State.{Frame, State, frame_number, is_frame, queue_is}
use Rattle.rules.specs.Receiving.{available, deliverable, above, other_than, keeping, enqueue, deliver, is_next, at_once, from_ahead, receive_new, queued, queue_full, queue_overrun}
use Rattle.rules.specs.Sound.{sound_frame}
use Rattle.rules.specs.Buffers.{queue_end}
use Rattle.rules.proofs.Lists.{both, and_left, and_right, true_every}
use Rattle.delivery.specs.declared.Turn.{Turn}
use Rattle.delivery.specs.Turns.{frame_of, during}
use Rattle.delivery.specs.Acts.{Available, Deliverable}
use Rattle.receiving.specs.Checks.{NewFrame, Terminal, Delivers, reach_new}

-- ---- what is asked of a turn

or_none : (b : Bool) → b ≡ (b || false)
or_none true = refl
or_none false = refl

module _ (status : HostStatus) (n k : ℕ) (t : Turn) {a : Bool} (h : Available status t a) where
  module _ (on : a ≡ true) where
    pub delivers_next : n ≡ t.remote + 1 → {d : Bool} → Deliverable n k t d → Delivers status n k t d
    delivers_next e {d} g b s fs ws u =
        let z : available status (during s fs ws t) ≡ true = sym (h s fs ws u) ∙ on in
        let y : eqb (n - (t.remote + 1)) 0 ≡ true = eq-eqb (n - (t.remote + 1)) 0 (omega arith) in
        rw (z, y) (g b s fs ws u ∙ or_none (deliverable (frame_of n k b) (during s fs ws t)))

    pub delivers_ahead : t.remote < n → (n ≡ t.remote + 1 → ⊥) → {d : Bool} → Terminal k t d → Delivers status n k t d
    delivers_ahead l e {d} g b s fs ws u =
        let z : available status (during s fs ws t) ≡ true = sym (h s fs ws u) ∙ on in
        let y : eqb (n - (t.remote + 1)) 0 ≡ false = ne_eqb (n - (t.remote + 1)) 0 (λ m. e (omega arith)) in
        rw (z, y) (g n b s fs ws u)

-- ---- what of the queue is left by a delivery

-- of numbers from the next one on, the others are those above
others_above : (m n : ℕ) (fs : List Frame) → n ≤ m + 1 → rising frame_number m fs ≡ true → kept (other_than n) fs ≡ kept (above n) fs
unfolding kept rising
others_above m n [] h r = refl
others_above m n (f ∷ fs) h r =
    let lt : m < f.number = ltb-true m f.number (and_left (ltb m f.number) _ r) in
    go (is_frame n f) refl (others_above f.number n fs (omega arith) (and_right (ltb m f.number) _ r)) lt
  where
    go : (t : Bool) → is_frame n f ≡ t → kept (other_than n) fs ≡ kept (above n) fs → m < f.number
        → (if not t then (f ∷ kept (other_than n) fs) else kept (other_than n) fs) ≡ (if above n f then (f ∷ kept (above n) fs) else kept (above n) fs)
    go true e k lt = rw (le-ltb n f.number (omega (arith, eqb-true f.number n e))) k
    go false e k lt =
        let ne : f.number ≡ n → ⊥ = eqb-false f.number n e in
        rw (lt-ltb n f.number (far f.number ne lt)) (ap (λ (gs : List Frame). f ∷ gs) k)
      where
        far : (k : ℕ) → (k ≡ n → ⊥) → m < k → n < k
        far k d l = omega arith

-- what is above a number is not of it
above_others : (n : ℕ) (fs : List Frame) → kept (other_than n) (kept (above n) fs) ≡ kept (above n) fs
unfolding kept
above_others n [] = refl
above_others n (f ∷ fs) = go (above n f) refl (above_others n fs)
  where
    go : (t : Bool) → above n f ≡ t → kept (other_than n) (kept (above n) fs) ≡ kept (above n) fs
        → kept (other_than n) (if t then (f ∷ kept (above n) fs) else kept (above n) fs) ≡ (if t then (f ∷ kept (above n) fs) else kept (above n) fs)
    go true e k =
        let lt : n < f.number = ltb-true n f.number e in
        rw (ne_eqb f.number n (λ z. omega arith)) (ap (λ (gs : List Frame). f ∷ gs) k)
    go false e k = k

-- ---- what the rule book makes of it

module _ (status : HostStatus) (f : Frame) (s : State) where
  -- the queue that a delivery begins with
  abbrev pub chosen : List Frame
  chosen = if at_once status f s then s.inbox.queue else kept (above f.number) s.inbox.queue

  pub new_delivers : (at_once status f s || from_ahead status f s) ≡ true → receive_new status f s ≡ deliver f (queue_is chosen s)
  unfolding receive_new
  new_delivers h = go (at_once status f s) (from_ahead status f s) h
    where
      go : (x y : Bool) → (x || y) ≡ true
          → (if x then deliver f s else if y then deliver f (keeping (above f.number) s) else enqueue f s)
          ≡ deliver f (queue_is (if x then s.inbox.queue else kept (above f.number) s.inbox.queue) s)
      go true y e = refl
      go false true e = refl
      go false false e = absurd (both refl e)

  pub new-queues : (at_once status f s || from_ahead status f s) ≡ false → receive_new status f s ≡ enqueue f s
  unfolding receive_new
  new-queues h = go (at_once status f s) (from_ahead status f s) h
    where
      go : (x y : Bool) → (x || y) ≡ false → (if x then deliver f s else if y then deliver f (keeping (above f.number) s) else enqueue f s) ≡ enqueue f s
      go true y e = absurd (both e refl)
      go false true e = absurd (both e refl)
      go false false e = refl

  pub chosen_left : s.inbox.remote < f.number → rising frame_number s.inbox.remote s.inbox.queue ≡ true
      → kept (other_than f.number) chosen ≡ kept (above f.number) s.inbox.queue
  chosen_left l r = go (at_once status f s) refl
    where
      go : (x : Bool) → at_once status f s ≡ x
          → kept (other_than f.number) (if x then s.inbox.queue else kept (above f.number) s.inbox.queue) ≡ kept (above f.number) s.inbox.queue
      go true e =
          let z : f.number - (s.inbox.remote + 1) ≡ 0 =
          eqb-true _ _ (and_right (available status s) (is_next f s) (and_left (available status s && is_next f s) (deliverable f s) e)) in
          others_above s.inbox.remote f.number s.inbox.queue (omega arith) r
      go false e = above_others f.number s.inbox.queue

  -- ---- how far bodies reach

  pub reach_now : (at_once status f s || from_ahead status f s) ≡ true → reach_new status f s ≡ queue_end s
  reach_now h =
      go (at_once status f s) (from_ahead status f s) (not (queued f.number s) ∷ not (queue_full s) ∷ not (queue_overrun f s) ∷ []) h
    where
      go : (x y : Bool) (ts : List Bool) → (x || y) ≡ true → (if every (not x ∷ not y ∷ ts) then queue_end s + length f.body else queue_end s) ≡ queue_end s
      go true y ts e = refl
      go false true ts e = refl
      go false false ts e = absurd (both refl e)

  module _ (h : (at_once status f s || from_ahead status f s) ≡ false) where
    pub reach-later : reach_new status f s ≡ (if every (not (queued f.number s) ∷ not (queue_full s) ∷ not (queue_overrun f s) ∷ []) then queue_end s + length f.body else queue_end s)
    reach-later =
        go (at_once status f s) (from_ahead status f s) (not (queued f.number s) ∷ not (queue_full s) ∷ not (queue_overrun f s) ∷ []) h
      where
        go : (x y : Bool) (ts : List Bool) → (x || y) ≡ false
            → (if every (not x ∷ not y ∷ ts) then queue_end s + length f.body else queue_end s) ≡ (if every ts then queue_end s + length f.body else queue_end s)
        go true y ts e = absurd (both e refl)
        go false true ts e = absurd (both e refl)
        go false false ts e = refl

pub frame-sound : (f : Frame) (s : State) → NewFrame f s → sound_frame s.fixed f ≡ true
frame-sound f s h =
    true_every (leb f.number 18446744073709551614 ∷ leb f.kind 2 ∷ leb (length f.body) s.fixed.policy.body ∷ []) (
      le-leb _ _ h.last,
      (le-leb _ _ h.kind, (le-leb _ _ h.short, tt)),
    )
