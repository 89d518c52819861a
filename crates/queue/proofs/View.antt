-- Records and frames: what the view of a queue and a store is. Assumes nothing.
use mathlib.Core.Path.{◌≡◌, refl, sym, ap, ◌∙◌, subst}
use mathlib.Core.Bool.{Bool, true, false}
use mathlib.Core.List.{List, ◌∷◌, ◌++◌, map}
use Prim.Native.Nat.{ℕ, ◌-◌, ◌≤◌, max}
use native.Mathlib.Omega.{arith}
use lib.ListN.{length, take, drop, replicate}
use lib.Seq.{length-take-le}
use Rattle.stores.specs.Packed.{cut}
use Rattle.rules.specs.Buffers.{repacked}
use Rattle.stores.specs.Fronts.{front}
use Rattle.stores.proofs.Packs.{Packing, cut-packed, map-cut, length_cut, packed-cut, length-packed, length-repacked}
use Rattle.stores.proofs.Cuts.{any-cut, front_cut}
use Rattle.stores.proofs.Seats as Seats
use Rattle.rules.specs.Lists.{Bytes, any, kept, put, total, packed, rising}
use Rattle.rules.specs.State as R
use Rattle.rules.specs.State.{frame_number, frame_body, frame_size, is_frame}
use Rattle.rules.specs.Receiving.{above, up_to}
use Rattle.rules.proofs.Lists as Lists
use Rattle.queue.specs.declared.Queued.{Queued}
use Rattle.queue.specs.declared.Queue.{Queue}
use Rattle.queue.specs.View.{num_q, len_q, frame, record_q, used_q, frames_of, end_q, ExactQueue, Repacked}
use Rattle.queue.specs.Steps.{Leads}

pub pack_q : Packing len_q frame record_q frame_body
pack_q =
    record {
      size_rec = λ m. refl;
      make_rec = λ m. refl;
      rec_make = λ u b e. ap {B = Queued} (λ (n : ℕ). record { number = u.number; len = n; kind = u.kind }) e;
      body_make = λ u b. refl;
    }

-- ---- an exact queue encodes its frames

module _ (x : Queue) (q : Bytes) (e : ExactQueue x (length q)) where
  pub used-length : length (used_q x) ≡ x.count
  used-length = length-take-le x.count x.records (omega (arith, e.full, e.few))

  pub frames-length : length (frames_of x q) ≡ x.count
  unfolding frames_of
  frames-length = length_cut len_q frame (used_q x) q ∙ used-length

  pub frames-records : map record_q (frames_of x q) ≡ used_q x
  unfolding frames_of
  frames-records = map-cut pack_q (used_q x) q (omega (arith, e.small, e.room))

  pub frames-bytes : packed frame_body (frames_of x q) ≡ take (end_q x) q
  unfolding frames_of
  frames-bytes = packed-cut len_q frame frame_body (λ u b. refl) (used_q x) q

  pub frames-total : total frame_size (frames_of x q) ≡ end_q x
  frames-total =
      sym (Lists.length-packed frame_body (frames_of x q)) ∙ ap length frames-bytes ∙ length-take-le (end_q x) q (omega (arith, e.small, e.room))

-- ---- what encodes frames is viewed as them

pub repacked-is : (x : Queue) (q : Bytes) (fs : List R.Frame) (r : Queue) (q' : Bytes) → ExactQueue x (length q) → length r.records ≡ 256 → r.count ≤ 256
    → used_q r ≡ map record_q fs → length (packed frame_body fs) ≤ 32768 → q' ≡ repacked (end_q x) (packed frame_body fs) q → Repacked x q fs r q'
unfolding frames_of repacked
repacked-is x q fs r q' e full few records small bytes =
    let b : Bytes = packed frame_body fs in
    let size : length q' ≡ length q = ap length bytes ∙ length-repacked (end_q x) b q (omega (arith, e.small, e.room)) (omega (arith, e.room)) in
    let end : end_q r ≡ length b = ap (total len_q) records ∙ length-packed pack_q fs in
    record {
      frames =
          ap (λ (us : List Queued). cut len_q frame us q') records
          ∙ ap (cut len_q frame (map record_q fs)) bytes
          ∙ cut-packed pack_q fs (replicate (end_q x - length b) 0 ++ drop (max (end_q x) (length b)) q);
      exact = record { full = full; few = few; small = omega arith; room = omega (arith, e.room) };
      bytes = bytes;
      size = size;
    }

pub repacked_as : {x : Queue} {q : Bytes} {fs gs : List R.Frame} {r : Queue} {q' : Bytes} → fs ≡ gs → Repacked x q fs r q' → Repacked x q gs r q'
repacked_as {x} {q} {fs} {gs} {r} {q'} e h = subst (λ (hs : List R.Frame). Repacked x q hs r q') e h

-- ---- what is asked of the frames is in the records

abbrev pub is-queued : ℕ → Queued → Bool
is-queued n u = Seats.is num_q n u

abbrev pub queued_up_to : ℕ → Queued → Bool
queued_up_to n u = Seats.upto num_q n u

pub any-frame : (n : ℕ) (x : Queue) (q : Bytes) → any (is_frame n) (frames_of x q) ≡ any (is-queued n) (used_q x)
unfolding frames_of
any-frame n x q = any-cut len_q frame (is_frame n) (is-queued n) (λ u b. refl) (used_q x) q

pub front-frames : (n : ℕ) (x : Queue) (q : Bytes) → front (up_to n) (frames_of x q) ≡ front (queued_up_to n) (used_q x)
unfolding frames_of
front-frames n x q = front_cut len_q frame (up_to n) (queued_up_to n) (λ u b. refl) (used_q x) q

pub leads : (n : ℕ) (x : Queue) (k : ℕ) → k ≤ x.count → k ≡ front (queued_up_to n) (used_q x) → Leads n x k
leads n x k h e = record { is = λ q. e ∙ sym (front-frames n x q); within = h }

-- of a rising queue, the frames above a number are left when the front up to it goes
pub above-is : (last n : ℕ) (x : Queue) (q : Bytes) (k : ℕ) → rising frame_number last (frames_of x q) ≡ true → Leads n x k
    → kept (above n) (frames_of x q) ≡ drop k (frames_of x q)
above-is last n x q k r l = Seats.kept-past frame_number last n (frames_of x q) r ∙ ap (λ (j : ℕ). drop j (frames_of x q)) (sym (l.is q))

-- a frame whose number is not queued goes in after the front up to it
pub put_is : (f : R.Frame) (x : Queue) (q : Bytes) (k : ℕ) → any (is_frame f.number) (frames_of x q) ≡ false → Leads f.number x k
    → put frame_number f (frames_of x q) ≡ take k (frames_of x q) ++ (f ∷ drop k (frames_of x q))
put_is f x q k e l =
    Seats.put-after frame_number f (frames_of x q) e ∙ ap (λ (j : ℕ). take j (frames_of x q) ++ (f ∷ drop j (frames_of x q))) (sym (l.is q))
