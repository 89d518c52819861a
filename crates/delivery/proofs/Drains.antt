-- The drain's loop: what is left to do, a turn of it, and its ends. Assumes nothing.
use mathlib.Core.Path.{◌≡◌, refl, sym, ap, ◌∙◌, subst}
use mathlib.Core.Bool.{true, false}
use mathlib.Core.List.{List, ◌∷◌}
use mathlib.Core.Option.{some}
use Prim.Native.Nat.{ℕ, suc, ◌+◌, ◌-◌, ◌*◌, ◌≤◌, ◌<◌}
use native.Mathlib.Omega.{arith}
use lib.ListN.{length, take, drop, length-drop, drop_of_length-le}
use Rattle.rules.specs.declared.HostStatus.{HostStatus}
use Rattle.rules.specs.declared.Refusal.{Refusal}
use Rattle.rules.specs.Lists.{Bytes, kept, all, first, total, put, rising, itself}
use Rattle.rules.specs.State as R
use Rattle.rules.specs.State.{frame_number, frame_size, is_frame}
use Rattle.rules.specs.Sound.{at_most}
use Rattle.rules.specs.Progress.{Progress, stays, ◌then◌}
use Rattle.rules.specs.Receiving.{other_than, deliver, next_frame, drains, drain}
use Rattle.std.specs.Prelude.{Option, None, Some, Result, Ok, Err}
use Rattle.events.specs.Written.{Books, books, Within, final, ends}
use Rattle.events.proofs.Laws.{write-none, then_goes, then_stops}
use Rattle.numbers.specs.declared.Numbers.{Numbers}
use Rattle.numbers.specs.Seats.{in_use, ExactNumbers}
use Rattle.queue.specs.declared.Queue.{Queue}
use Rattle.queue.specs.View.{len_q, frame, used_q, frames_of}
use Rattle.queue.proofs.View.{frames-length}
use Rattle.delivery.specs.declared.Turn.{Turn}
use Rattle.delivery.specs.declared.Step.{Step}
use Rattle.delivery.specs.declared.Drained.{Drained}
use Rattle.delivery.specs.Turns.{during, Under, Ready, Delivered, Draining, Drains}
use Rattle.delivery.specs.Acts.{Available, Deliverable, drained_by}
use Rattle.delivery.proofs.Queues.{queue_record_at, frame_at, with_last, turn_off, turn-none, turn_not, turn-goes, first-nothing, head-above, tail_above, kept-head, next-none, next_some, start-on, start_small, frames-step, body-size, size_step, number-last, put_more, exact_more, behind_more}

-- What the loop keeps, at frame i, whose body starts at byte a: the drain from here on comes to what the whole drain comes to.
pub record Turns (status : HostStatus) (t₀ : Turn) (w₀ : Numbers) (x : Queue) (i₀ : ℕ) (q : Bytes) (b₀ : Books) (t : Turn) (w : Numbers) (i a : ℕ) (b : Books) : Type 0 where
  pub pre : Draining t₀ w₀ x i₀ q b₀
  pub waits : ExactNumbers w
  pub within : i ≤ x.count
  pub start : a ≡ total len_q (take i (used_q x))
  pub order : rising frame_number t.remote (drop i (frames_of x q)) ≡ true
  pub behind : all (at_most t.remote) (in_use w) ≡ true
  pub many : w.count + (x.count - i) ≤ 512
  pub slow : t.clock.generation + 2 * (x.count - i) ≤ t₀.clock.generation + 2 * (x.count - i₀)
  pub few : b.n + 2 * (x.count - i) ≤ b₀.n + 2 * (x.count - i₀)
  pub short : b.at + total frame_size (drop i (frames_of x q)) ≤ b₀.at + total frame_size (drop i₀ (frames_of x q))
  pub list : length b.list ≡ length b₀.list
  pub delivery : length b.delivery ≡ length b₀.delivery
  pub under : (s : R.State) → Under s t₀ → Under s t
  pub left : (s : R.State) (us : List R.Unacked) → Under s t₀
      → final us (drains (x.count - i) status (during s (drop i (frames_of x q)) (in_use w) t)) b
      ≡ final us (drain status (during s (drop i₀ (frames_of x q)) (in_use w₀) t₀)) b₀

-- as it begins
pub turns_none : (status : HostStatus) (t : Turn) (w : Numbers) (x : Queue) (i : ℕ) (q : Bytes) (b : Books) (a : ℕ) → Draining t w x i q b
    → a ≡ total len_q (take i (used_q x)) → Turns status t w x i q b t w i a b
turns_none status t w x i q b a d e =
    let n : length (drop i (frames_of x q)) ≡ x.count - i = length-drop i (frames_of x q) ∙ ap (λ (k : ℕ). k - i) (frames-length x q d.exact) in
    record {
      pre = d;
      waits = d.waits;
      within = d.within;
      start = e;
      order = d.order;
      behind = d.behind;
      many = d.many;
      slow = omega arith;
      few = omega arith;
      short = omega arith;
      list = refl;
      delivery = refl;
      under = λ s u. u;
      left = λ s us u. ap (λ (k : ℕ). final us (drains k status (during s (drop i (frames_of x q)) (in_use w) t)) b) (sym n);
    }

abbrev drained : Turn → Numbers → ℕ → Books → Option Refusal → Drained
drained t w i b z = drained_by t w i b.n b.at z

module _ {status : HostStatus} {t₀ : Turn} {w₀ : Numbers} {x : Queue} {i₀ : ℕ} {q : Bytes} {b₀ : Books} {t : Turn} {w : Numbers} {i a : ℕ} {b : Books}
    (v : Turns status t₀ w₀ x i₀ q b₀ t w i a b) where
  abbrev fs : List R.Frame
  fs = drop i (frames_of x q)

  abbrev st : R.State → R.State
  st s = during s (drop i (frames_of x q)) (in_use w) t

  turns_within : Within b
  turns_within = record { listed = omega (arith, v.few, v.list, v.pre.room); filled = omega (arith, v.short, v.delivery, v.pre.bytes) }

  -- the loop is left with the turn as it is
  out : ((s : R.State) → Under s t → (k : ℕ) → drains k status (st s) ≡ stays (st s)) → Drains status t₀ w₀ x i₀ q b₀ (drained t w i b None) b.list b.delivery
  out h =
      record {
        does = λ s us u.
            sym (v.left s us u) ∙ ap (λ (p : Progress). final us p b) (h s (v.under s u) (x.count - i)) ∙ ap (ends None (st s)) (write-none us b);
        under = v.under;
        waits = v.waits;
        within = v.within;
        slow = omega (arith, v.slow);
        few = omega (arith, v.few);
        short = omega (arith, v.short);
      }

  pub out_end : x.count ≤ i → Drains status t₀ w₀ x i₀ q b₀ (drained t w i b None) b.list b.delivery
  out_end h =
      let n : length (frames_of x q) ≤ i = omega (arith, frames-length x q v.pre.exact) in
      out (λ s u. turn-none status (st s) (first-nothing (t.remote + 1) (drop i (frames_of x q)) (drop_of_length-le (frames_of x q) n)))

  pub out_empty : x.count ≤ i → Drains status t₀ w₀ x i₀ q b₀ (drained t w x.count b None) b.list b.delivery
  out_empty h =
      let e : i ≡ x.count = omega (arith, v.within) in
      subst (λ (k : ℕ). Drains status t₀ w₀ x i₀ q b₀ (drained t w k b None) b.list b.delivery) e (out_end h)

  pub out_unavailable : Available status t false → Drains status t₀ w₀ x i₀ q b₀ (drained t w i b None) b.list b.delivery
  out_unavailable g = out (λ s u. turn_off status (st s) (sym (g s fs (in_use w) u)))

  module _ (h : i < x.count) where
    abbrev f : R.Frame
    f = frame_at x i a q

    abbrev rest : List R.Frame
    rest = drop (i + 1) (frames_of x q)

    step : drop i (frames_of x q) ≡ f ∷ rest
    step = frames-step x q v.pre.exact i a v.start h

    rises : rising frame_number t.remote (f ∷ rest) ≡ true
    rises = subst (λ (l : List R.Frame). rising frame_number t.remote l ≡ true) step v.order

    pub next_small : t.remote + 1 ≤ 18446744073709551615
    next_small = omega (arith, head-above t.remote f rest rises, number-last x q v.pre.exact i a v.start h v.pre.last)

    pub on-small : a + (queue_record_at x i).len ≤ 32768
    on-small = start_small x q v.pre.exact i a v.start h

    size : total frame_size (drop i (frames_of x q)) ≡ (queue_record_at x i).len + total frame_size (drop (i + 1) (frames_of x q))
    size = size_step x q v.pre.exact i a v.start h

    pub has_room : w.count < 512
    has_room = omega (arith, v.many)

    pub reaches : a + (queue_record_at x i).len ≤ length q
    reaches = omega (arith, on-small, v.pre.exact.room)

    pub ready : Ready t (queue_record_at x i).len (length b.list) b.n (length b.delivery) b.at
    ready =
        record {
          slow = omega (arith, v.slow, v.pre.slow);
          room = omega (arith, v.few, v.list, v.pre.room);
          bytes = omega (arith, v.short, v.delivery, v.pre.bytes, size);
        }

    -- a body that lies there
    pub ready_for : {y : Bytes} → y ≡ (frame_at x i a q).body → Ready t (length y) (length b.list) b.n (length b.delivery) b.at
    ready_for e = subst (λ (k : ℕ). Ready t k (length b.list) b.n (length b.delivery) b.at) (sym (ap length e ∙ body-size x q v.pre.exact i a v.start h)) ready

    pub lying : {y : Bytes} → y ≡ (frame_at x i a q).body → {r : Result Step Refusal} {l' : List ℕ} {d' : Bytes}
        → Delivered (frame (queue_record_at x i) y) t b r l' d' → Delivered (frame_at x i a q) t b r l' d'
    lying e {r} {l'} {d'} g = subst (λ (z : Bytes). Delivered (frame (queue_record_at x i) z) t b r l' d') e g

    pub out_later : ((queue_record_at x i).number ≡ t.remote + 1 → ⊥)
        → Drains status t₀ w₀ x i₀ q b₀ (drained t w i b None) b.list b.delivery
    out_later ne = out (λ s y. turn-none status (st s) (ap (first (is_frame (t.remote + 1))) step ∙ next-none t.remote f rest rises ne))

    module _ (is : (queue_record_at x i).number ≡ t.remote + 1) where
      found : (s : R.State) → next_frame (st s) ≡ some f
      found s = ap (first (is_frame (t.remote + 1))) step ∙ next_some t.remote f rest rises is

      pub out_undeliverable : Deliverable (queue_record_at x i).number (queue_record_at x i).kind t false
          → Drains status t₀ w₀ x i₀ q b₀ (drained t w i b None) b.list b.delivery
      out_undeliverable g = out (λ s y. turn_not status (st s) f (found s) (sym (g f.body s fs (in_use w) y)))

      -- a delivery
      module _ (on : Available status t true) (yes : Deliverable (queue_record_at x i).number (queue_record_at x i).kind t true) where
        turn : (s : R.State) → Under s t → (k : ℕ) → drains (suc k) status (st s) ≡ (deliver f (st s) then drains k status)
        turn s y k = turn-goes status (st s) f (sym (on s fs (in_use w) y)) (found s) (sym (yes f.body s fs (in_use w) y)) k

        count : x.count - i ≡ suc (x.count - (i + 1))
        count = omega arith

        body : length (frame_at x i a q).body ≡ (queue_record_at x i).len
        body = body-size x q v.pre.exact i a v.start h

        pub out_refused : {z : Refusal} {l' : List ℕ} {d' : Bytes} → Delivered (frame_at x i a q) t b (Err z) l' d'
            → Drains status t₀ w₀ x i₀ q b₀ (drained t w i b (Some z)) l' d'
        out_refused {z} {l'} {d'} g =
            record {
              does = λ s us y.
                  sym (v.left s us y)
                  ∙ ap (λ (k : ℕ). final us (drains k status (st s)) b) count
                  ∙ ap (λ (p : Progress). final us p b) (turn s (v.under s y) (x.count - (i + 1)))
                  ∙ then_stops us (deliver f (st s)) (drains (x.count - (i + 1)) status) b (books l' b.n d' b.at) z (st s)
                  (g.does s fs (in_use w) us (v.under s y));
              under = v.under;
              waits = v.waits;
              within = v.within;
              slow = omega (arith, v.slow);
              few = omega (arith, v.few);
              short = omega (arith, v.short);
            }

        module _ {r : Step} {l' : List ℕ} {d' : Bytes} (g : Delivered (frame_at x i a q) t b (Ok r) l' d') where
          abbrev b' : Books
          b' = books l' r.events d' r.at

          abbrev w' : Numbers
          w' = with_last (queue_record_at x i).number w

          -- an ack above all that wait
          put_is : put itself f.number (in_use w) ≡ in_use w'
          put_is = put_more w v.waits has_room t.remote (queue_record_at x i).number (omega arith) v.behind

          goes_on : (s : R.State) (us : List R.Unacked) (k : ℕ) → Under s t
              → final us (drains (suc k) status (st s)) b ≡ final us (drains k status (during s rest (in_use w') r.turn)) b'
          goes_on s us k y =
              ap (λ (p : Progress). final us p b) (turn s y k)
              ∙ then_goes us (deliver f (st s)) (drains k status) b b' (during s rest (in_use w') r.turn) turns_within
              (g.does s fs (in_use w) us y
              ∙ ap (λ (l : List R.Frame). ends None (during s l (put itself f.number (in_use w)) r.turn) b')
              (ap (kept (other_than f.number)) step ∙ kept-head t.remote f rest rises)
              ∙ ap (λ (l : List ℕ). ends None (during s rest l r.turn) b') put_is)

          pub turns_more : length l' ≡ length b.list → length d' ≡ length b.delivery
              → Turns status t₀ w₀ x i₀ q b₀ r.turn (with_last (queue_record_at x i).number w) (i + 1)
              (a + (queue_record_at x i).len) (books l' r.events d' r.at)
          turns_more ll ld =
              record {
                pre = v.pre;
                waits = exact_more w v.waits has_room t.remote (queue_record_at x i).number (omega arith) v.behind;
                within = omega arith;
                start = start-on x q v.pre.exact i a v.start h;
                order = subst (λ (n : ℕ). rising frame_number n rest ≡ true) (sym (g.remote refl)) (tail_above t.remote f rest rises);
                behind =
                    subst (λ (n : ℕ). all (at_most n) (in_use w') ≡ true) (sym (g.remote refl))
                    (behind_more w v.waits has_room t.remote (queue_record_at x i).number (omega arith) v.behind);
                many = omega (arith, v.many);
                slow = omega (arith, v.slow, g.slow);
                few = omega (arith, v.few, g.few);
                short = omega (arith, v.short, g.short, size, body);
                list = ll ∙ v.list;
                delivery = ld ∙ v.delivery;
                under = λ s y. g.under s (v.under s y);
                left = λ s us y.
                    sym (goes_on s us (x.count - (i + 1)) (v.under s y))
                    ∙ ap (λ (k : ℕ). final us (drains k status (st s)) b) (sym count)
                    ∙ v.left s us y;
              }
