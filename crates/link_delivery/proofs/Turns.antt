-- The drain's loop in place: what it keeps, a turn of it, and its ends, each from the plain drain's. Assumes nothing.
use mathlib.Core.Path.{◌≡◌, refl, sym, ap, ◌∙◌, subst}
use mathlib.Core.Bool.{Bool, true, false}
use mathlib.Core.List.{List}
use Prim.Native.Nat.{ℕ, zero, suc, ◌+◌, ◌-◌, ◌≤◌, ◌<◌}
use native.Mathlib.Omega.{arith}
use lib.ListN.{length, take, drop, set}
use lib.Seq.{get_or-set_same}
use Rattle.rules.specs.declared.HostStatus.{HostStatus}
use Rattle.rules.specs.declared.Refusal.{Refusal}
use Rattle.rules.specs.Lists.{Bytes, total, itself}
use Rattle.rules.specs.State as R
use Rattle.std.specs.Prelude.{Option, None, Some, Result, Ok, Err}
use Rattle.events.specs.Written.{Books, books}
use Rattle.numbers.specs.declared.Numbers.{Numbers}
use Rattle.queue.specs.declared.Queued.{Queued}
use Rattle.queue.specs.declared.Queue.{Queue}
use Rattle.queue.specs.View.{blank_q, len_q, used_q}
use Rattle.queue.proofs.Changes.{start-within, start_plain}
use Rattle.delivery.specs.declared.Turn.{Turn}
use Rattle.delivery.specs.declared.Step.{Step}
use Rattle.delivery.specs.Turns.{Ready, Delivered, Draining, Drains, frame_of}
use Rattle.delivery.specs.Acts.{Available, Deliverable, drained_by}
use Rattle.delivery.proofs.Queues.{queue_record_at, frame_at, with_last}
use Rattle.delivery.proofs.Drains.{Turns, turns_none, turns_more, ready, reaches, on-small, has_room, ready_for, out_later, out_undeliverable, out_refused}
use Rattle.parts.specs.Seats.{seats}
use Rattle.parts.specs.Parts.{at, section, queued_at, queue_in, waiting_in}
use Rattle.parts.specs.Frames.{Only}
use Rattle.parts.proofs.Seats.{get_d_seats, take-seats}
use Rattle.link_queue.specs.Steps.{bodies, Summing}
use Rattle.link_numbers.proofs.Sets.{section-room, section-set, section-before, only_none, only-number, only-count}
use Rattle.link_delivery.specs.declared.DrainEnd.{DrainEnd}
use Rattle.link_delivery.specs.Drains.{DrainsIn, Left}

-- the acks that wait, k of them: their count is stored once, at the end
abbrev pub held : List ℕ → ℕ → Numbers
held w k = record { values = section 272 512 w; count = k }

-- What the loop keeps. The last three are there for `omega`.
pub record TurnsIn (status : HostStatus) (t₀ : Turn) (w₀ h c : List ℕ) (i₀ : ℕ) (q : Bytes) (b₀ : Books) (t : Turn) (w : List ℕ) (k i a : ℕ) (b : Books) : Type 0 where
  pub turns : Turns status t₀ (waiting_in w₀) (queue_in w₀ h c) i₀ q b₀ t (held w k) i a b
  pub only : Only 272 5 w₀ w
  pub few : at w₀ 4 ≤ 256
  pub within : i ≤ at w₀ 4
  pub many : k + (at w₀ 4 - i) ≤ 512

-- ---- where it begins

total-seats : (n : ℕ) (f : ℕ → Queued) → total len_q (seats n f) ≡ total itself (seats n (λ i. (f i).len))
unfolding total seats
total-seats zero f = refl
total-seats (suc n) f = ap (λ (k : ℕ). (f 0).len + k) (total-seats n (λ i. f (suc i)))

-- the frames before frame i end where it starts
start-bodies : (w h c : List ℕ) (i : ℕ) → i ≤ at w 4 → at w 4 ≤ 256 → total len_q (take i (used_q (queue_in w h c))) ≡ bodies h i
start-bodies w h c i l f =
    start_plain (queue_in w h c) i l ∙ ap (total len_q) (take-seats i 256 (queued_at w h c) (omega arith)) ∙ total-seats i (queued_at w h c)

module _ (w h c : List ℕ) {t : Turn} {i : ℕ} {q : Bytes} {b : Books} (d : Draining t (waiting_in w) (queue_in w h c) i q b) where
  pub summing : Summing h i
  summing =
      record {
        few = omega (arith, d.within, d.exact.few);
        small = omega (arith, start-bodies w h c i d.within d.exact.few, start-within (queue_in w h c) i, d.exact.small);
      }

  pub turns_in : (status : HostStatus) {a : ℕ} → a ≡ bodies h i → TurnsIn status t w h c i q b t w (at w 5) i a b
  turns_in status {a} e =
      record {
        turns = turns_none status t (waiting_in w) (queue_in w h c) i q b a d (e ∙ sym (start-bodies w h c i d.within d.exact.few));
        only = only_none 272 5 w;
        few = d.exact.few;
        within = d.within;
        many = d.many;
      }

-- ---- where it ends

waiting-held : (w : List ℕ) (k : ℕ) → 784 ≤ length w → waiting_in (set w 5 k) ≡ held w k
waiting-held w k l =
    let s : section 272 512 (set w 5 k) ≡ section 272 512 w = section-before 272 w 5 k (omega arith) in
    let n : at (set w 5 k) 5 ≡ k = get_or-set_same w 5 k 0 (omega arith) in
    rw (s, n)

module _ {status : HostStatus} {t₀ : Turn} {w₀ h c : List ℕ} {i₀ : ℕ} {q : Bytes} {b₀ : Books} {t : Turn} {w : List ℕ} {k i a : ℕ} {b : Books}
    (v : TurnsIn status t₀ w₀ h c i₀ q b₀ t w k i a b) where
  room : 784 ≤ length w
  room = omega (arith, v.only.size, section-room 272 w₀ v.turns.pre.waits.full)

  -- the count of the acks that wait is stored
  pub ends_in : {j : ℕ} {s : Step} {z : Option Refusal} {r : DrainEnd} {w' l' : List ℕ} {d' : Bytes}
      → Drains status t₀ (waiting_in w₀) (queue_in w₀ h c) i₀ q b₀ (drained_by s.turn (held w k) j s.events s.at z) l' d' → Left s k j z w r w'
      → DrainsIn status t₀ i₀ w₀ h c q b₀ r w' l' d'
  ends_in {j} {s} {z} {r} {w'} {l'} {d'} d e =
      let n : waiting_in w' ≡ held w k = ap waiting_in e.words ∙ waiting-held w k room in
      let D : Numbers → Type 0 = λ x. Drains status t₀ (waiting_in w₀) (queue_in w₀ h c) i₀ q b₀ (drained_by s.turn x j s.events s.at z) l' d' in
      subst (λ (y : DrainEnd). DrainsIn status t₀ i₀ w₀ h c q b₀ y w' l' d') (sym e.end)
      (record { drains = subst D (sym n) d; only = subst (λ (x : List ℕ). Only 272 5 w₀ x) (sym e.words) (only-count v.only k (omega arith)) })

  -- ---- the next frame

  module _ (l : i < at w₀ 4) where
    abbrev x : Queue
    x = queue_in w₀ h c

    here : queue_record_at x i ≡ queued_at w₀ h c i
    here = get_d_seats 256 (queued_at w₀ h c) i blank_q (omega (arith, v.few))

    number_is : (queue_record_at x i).number ≡ at w (16 + i)
    number_is = ap (λ (u : Queued). u.number) here ∙ sym (v.only.below (16 + i) (omega (arith, v.few)) (λ e. omega arith))

    kind-is : (queue_record_at x i).kind ≡ at c (512 + i)
    kind-is = ap (λ (u : Queued). u.kind) here

    pub later_in : (at w (16 + i) ≡ t.remote + 1 → ⊥)
        → Drains status t₀ (waiting_in w₀) (queue_in w₀ h c) i₀ q b₀ (drained_by t (held w k) i b.n b.at None) b.list b.delivery
    later_in ne = out_later v.turns l (λ e. ne (sym number_is ∙ e))

    module _ {len : ℕ} (el : len ≡ at h (512 + i)) where
      len_is : (queue_record_at x i).len ≡ len
      len_is = ap (λ (u : Queued). u.len) here ∙ sym el

      pub reaches_in : a + len ≤ length q
      reaches_in = omega (arith, reaches v.turns l, len_is)

      pub on_in : a + len ≤ 32768
      on_in = omega (arith, on-small v.turns l, len_is)

      pub ready_in : Ready t len (length b.list) b.n (length b.delivery) b.at
      ready_in = subst (λ (m : ℕ). Ready t m (length b.list) b.n (length b.delivery) b.at) len_is (ready v.turns l)

      -- a body of that length that lies there
      pub ready_body : {y : Bytes} → y ≡ take len (drop a q) → Ready t (length y) (length b.list) b.n (length b.delivery) b.at
      ready_body e = ready_for v.turns l (e ∙ ap (λ (m : ℕ). take m (drop a q)) (sym len_is))

      frame_is : frame_at x i a q ≡ frame_of (at w (16 + i)) (at c (512 + i)) (take len (drop a q))
      frame_is =
          let n : (queue_record_at x i).number ≡ at w (16 + i) = number_is in
          let m : (queue_record_at x i).kind ≡ at c (512 + i) = kind-is in
          let e : (queue_record_at x i).len ≡ len = len_is in
          rw (n, m, e)

    module _ (is : at w (16 + i) ≡ t.remote + 1) where
      is_next : (queue_record_at x i).number ≡ t.remote + 1
      is_next = number_is ∙ is

      asked_of : {r : Bool} → Deliverable (at w (16 + i)) (at c (512 + i)) t r → Deliverable (queue_record_at x i).number (queue_record_at x i).kind t r
      asked_of {r} g =
          subst (λ (n : ℕ). Deliverable n (queue_record_at x i).kind t r) (sym number_is)
          (subst (λ (m : ℕ). Deliverable (at w (16 + i)) m t r) (sym kind-is) g)

      pub undeliverable_in : Deliverable (at w (16 + i)) (at c (512 + i)) t false
          → Drains status t₀ (waiting_in w₀) (queue_in w₀ h c) i₀ q b₀ (drained_by t (held w k) i b.n b.at None) b.list b.delivery
      undeliverable_in g = out_undeliverable v.turns l is_next (asked_of g)

      -- a delivery
      module _ {len : ℕ} (el : len ≡ at h (512 + i)) (on : Available status t true) (yes : Deliverable (at w (16 + i)) (at c (512 + i)) t true)
          {y : Bytes} (ey : y ≡ take len (drop a q)) where
        done : {r : Result Step Refusal} {l' : List ℕ} {d' : Bytes} → Delivered (frame_of (at w (16 + i)) (at c (512 + i)) y) t b r l' d'
            → Delivered (frame_at x i a q) t b r l' d'
        done {r} {l'} {d'} g =
            subst (λ (f : R.Frame). Delivered f t b r l' d') (ap (frame_of (at w (16 + i)) (at c (512 + i))) ey ∙ sym (frame_is el)) g

        pub refused_in : {z : Refusal} {l' : List ℕ} {d' : Bytes} → Delivered (frame_of (at w (16 + i)) (at c (512 + i)) y) t b (Err z) l' d'
            → Drains status t₀ (waiting_in w₀) (queue_in w₀ h c) i₀ q b₀ (drained_by t (held w k) i b.n b.at (Some z)) l' d'
        refused_in g = out_refused v.turns l is_next on (asked_of yes) (done g)

        -- its ack is stored after those that wait
        pub more_in : {r : Step} {l' : List ℕ} {d' : Bytes} → Delivered (frame_of (at w (16 + i)) (at c (512 + i)) y) t b (Ok r) l' d'
            → length l' ≡ length b.list → length d' ≡ length b.delivery
            → TurnsIn status t₀ w₀ h c i₀ q b₀ r.turn (set w (272 + k) (at w (16 + i))) (k + 1) (i + 1) (a + len) (books l' r.events d' r.at)
        more_in {r} {l'} {d'} g ll ld =
            let m : ℕ = at w (16 + i) in
            let f : k < 512 = has_room v.turns l in
            let T : Numbers → ℕ → Type 0 =
            λ u j. Turns status t₀ (waiting_in w₀) (queue_in w₀ h c) i₀ q b₀ r.turn u (i + 1) j (books l' r.events d' r.at) in
            let n : with_last (queue_record_at x i).number (held w k) ≡ held (set w (272 + k) m) (k + 1) =
            ap (λ (j : ℕ). with_last j (held w k)) number_is ∙ ap (λ (s : List ℕ). record { values = s; count = k + 1 }) (sym (section-set 272 w k m f)) in
            let z : T (with_last (queue_record_at x i).number (held w k)) (a + (queue_record_at x i).len) =
            turns_more v.turns l is_next on (asked_of yes) (done g) ll ld in
            record {
              turns =
                  subst (λ (j : ℕ). T (held (set w (272 + k) m) (k + 1)) (a + j)) (len_is el)
                  (subst (λ (u : Numbers). T u (a + (queue_record_at x i).len)) n z);
              only = only-number v.only k m f;
              few = v.few;
              within = omega arith;
              many = omega (arith, v.many);
            }
