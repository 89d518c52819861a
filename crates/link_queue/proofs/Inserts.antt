-- A frame that goes to its place, of a queue in place. Assumes nothing.
use mathlib.Core.Path.{◌≡◌, refl, sym, ap, ◌∙◌, subst}
use mathlib.Core.List.{List, [], ◌∷◌, ◌++◌, map}
use Prim.Native.Nat.{ℕ, zero, suc, ◌+◌, ◌-◌, ◌≤◌, ◌<◌}
use native.Mathlib.Omega.{arith}
use native.Mathlib.Numerals.{add-one}
use lib.ListN.{length, take, drop, set, length-set}
use lib.Seq.{get_or-set_same, get_or-set_other, take_all}
use Rattle.stores.specs.Placed.{placed}
use Rattle.stores.proofs.Packs.{map-append, map-take, map-drop}
use Rattle.rules.specs.Lists.{Bytes, put}
use Rattle.rules.specs.State as R
use Rattle.rules.specs.State.{frame_number}
use Rattle.queue.specs.declared.Queued.{Queued}
use Rattle.queue.specs.declared.Queue.{Queue}
use Rattle.queue.specs.View.{record_q, used_q, frames_of}
use Rattle.queue.specs.Steps.{arrived, Leads, Room, Enters, with_at}
use Rattle.queue.proofs.View.{frames-length, frames-records, repacked_as, put_is}
use Rattle.queue.proofs.Changes.{inserted, none_left}
use Rattle.parts.specs.Seats.{seats}
use Rattle.parts.specs.Parts.{at, queued_at, queue_in}
use Rattle.parts.proofs.Seats.{length-seats, seats-same, take-seats}
use Rattle.link_moves.specs.Moves.{Raised}
use Rattle.link_queue.specs.Frames.{OnlyQueue}
use Rattle.link_queue.specs.Steps.{bodies, Requeued}
use Rattle.link_queue.specs.Joins.{Joined}
use Rattle.link_queue.proofs.Sums.{start-bodies, end-bodies}
use Rattle.link_queue.proofs.Records.{only_same, recast}

-- ---- what is left alone

only_set : (w h b w₁ h₁ b₁ : List ℕ) (k x y z v : ℕ) → OnlyQueue w h b w₁ h₁ b₁ → k < 256
    → OnlyQueue w h b (set (set w₁ (16 + k) x) 4 y) (set h₁ (512 + k) z) (set b₁ (512 + k) v)
only_set w h b w₁ h₁ b₁ k x y z v g few =
    record {
      words = length-set (set w₁ (16 + k) x) 4 y ∙ length-set w₁ (16 + k) x ∙ g.words;
      halves = length-set h₁ (512 + k) z ∙ g.halves;
      bytes = length-set b₁ (512 + k) v ∙ g.bytes;
      below = λ i l n. in_words i n (λ e. omega arith) ∙ g.below i l n;
      above = λ i l. in_words i (λ e. omega arith) (λ e. omega arith) ∙ g.above i l;
      unacked = λ i l. get_or-set_other h₁ (512 + k) i z 0 (λ e. omega arith) ∙ g.unacked i l;
      clock = λ i l. get_or-set_other h₁ (512 + k) i z 0 (λ e. omega arith) ∙ g.clock i l;
      flags = λ i l. get_or-set_other b₁ (512 + k) i v 0 (λ e. omega arith) ∙ g.flags i l;
      rest = λ i l. get_or-set_other b₁ (512 + k) i v 0 (λ e. omega arith) ∙ g.rest i l;
    }
  where
    in_words : (i : ℕ) → (i ≡ 4 → ⊥) → (i ≡ 16 + k → ⊥) → at (set (set w₁ (16 + k) x) 4 y) i ≡ at w₁ i
    in_words i n m = get_or-set_other (set w₁ (16 + k) x) 4 i y 0 n ∙ get_or-set_other w₁ (16 + k) i x 0 m

-- ---- a frame in the midst

seats_with : {A : Type 0} (k n : ℕ) (f g : ℕ → A) (a : A) → k ≤ n → ((i : ℕ) → i < k → f i ≡ g i) → f k ≡ a
    → ((i : ℕ) → k ≤ i → i < n → f (suc i) ≡ g i) → seats (suc n) f ≡ take k (seats n g) ++ (a ∷ drop k (seats n g))
unfolding seats
seats_with {A} zero n f g a l before here after =
    ap (λ (x : A). x ∷ seats n (λ i. f (suc i))) here ∙ ap (λ (xs : List A). a ∷ xs) (seats-same n (λ i. f (suc i)) g (λ i h. after i (omega arith) h))
seats_with (suc k) zero f g a l before here after = absurd (omega arith)
seats_with {A} (suc k) (suc n) f g a l before here after =
    ap (λ (x : A). x ∷ seats (suc n) (λ i. f (suc i))) (before 0 (omega arith))
    ∙ ap (λ (xs : List A). g 0 ∷ xs)
    (seats_with k n (λ i. f (suc i)) (λ i. g (suc i)) a (omega arith) (λ i h. before (suc i) (omega arith)) here (λ i h m. after (suc i) (omega arith) (omega arith)))

module _ (w h b : List ℕ) (q : Bytes) (k number kind : ℕ) (body : Bytes) (r : Room (queue_in w h b) (length q) k (length body)) (lw : length w ≡ 1296) (lh : length h ≡ 772)
    (lb : length b ≡ 4936) where
  abbrev x : Queue
  x = queue_in w h b

  abbrev f : R.Frame
  f = arrived number kind body

  abbrev n : ℕ
  n = at w 4

  module _ (w₁ h₁ b₁ : List ℕ) (W : Raised (16 + k) (16 + at w 4) w w₁) (H : Raised (512 + k) (512 + at w 4) h h₁) (B : Raised (512 + k) (512 + at w 4) b b₁) where
    abbrev w₂ : List ℕ
    w₂ = set w₁ (16 + k) number

    abbrev w' : List ℕ
    w' = set w₂ 4 (n + 1)

    abbrev h' : List ℕ
    h' = set h₁ (512 + k) (length body)

    abbrev b' : List ℕ
    b' = set b₁ (512 + k) kind

    counted : at w' 4 ≡ n + 1
    counted = get_or-set_same w₂ 4 (n + 1) 0 (omega (arith, length-set w₁ (16 + k) number, W.size))

    in_words : (i : ℕ) → (i ≡ k → ⊥) → at w' (16 + i) ≡ at w₁ (16 + i)
    in_words i m = get_or-set_other w₂ 4 (16 + i) (n + 1) 0 (λ e. omega arith) ∙ get_or-set_other w₁ (16 + k) (16 + i) number 0 (λ e. m (omega arith))

    in_halves : (i : ℕ) → (i ≡ k → ⊥) → at h' (512 + i) ≡ at h₁ (512 + i)
    in_halves i m = get_or-set_other h₁ (512 + k) (512 + i) (length body) 0 (λ e. m (omega arith))

    in_bytes : (i : ℕ) → (i ≡ k → ⊥) → at b' (512 + i) ≡ at b₁ (512 + i)
    in_bytes i m = get_or-set_other b₁ (512 + k) (512 + i) kind 0 (λ e. m (omega arith))

    before : (i : ℕ) → i < k → queued_at w' h' b' i ≡ queued_at w h b i
    before i l =
        let p1 : at w' (16 + i) ≡ at w (16 + i) = in_words i (λ e. omega arith) ∙ W.below (16 + i) 0 (omega arith) in
        let p2 : at h' (512 + i) ≡ at h (512 + i) = in_halves i (λ e. omega arith) ∙ H.below (512 + i) 0 (omega arith) in
        let p3 : at b' (512 + i) ≡ at b (512 + i) = in_bytes i (λ e. omega arith) ∙ B.below (512 + i) 0 (omega arith) in
        cc

    here : queued_at w' h' b' k ≡ record_q f
    here =
        let p0 : at w' (16 + k) ≡ at w₂ (16 + k) = get_or-set_other w₂ 4 (16 + k) (n + 1) 0 (λ e. omega arith) in
        let p1 : at w₂ (16 + k) ≡ number = get_or-set_same w₁ (16 + k) number 0 (omega (arith, W.size, r.within, r.free)) in
        let p2 : at h' (512 + k) ≡ length body = get_or-set_same h₁ (512 + k) (length body) 0 (omega (arith, H.size, r.within, r.free)) in
        let p3 : at b' (512 + k) ≡ kind = get_or-set_same b₁ (512 + k) kind 0 (omega (arith, B.size, r.within, r.free)) in
        cc

    after : (i : ℕ) → k ≤ i → i < n → queued_at w' h' b' (suc i) ≡ queued_at w h b i
    after i l m =
        let e1 : 16 + suc i ≡ 16 + i + 1 = omega arith in
        let e2 : 512 + suc i ≡ 512 + i + 1 = omega arith in
        let p1 : at w' (16 + suc i) ≡ at w (16 + i) = in_words (suc i) (λ e. omega arith) ∙ ap (at w₁) e1 ∙ W.moved (16 + i) 0 (omega arith) (omega arith) in
        let p2 : at h' (512 + suc i) ≡ at h (512 + i) = in_halves (suc i) (λ e. omega arith) ∙ ap (at h₁) e2 ∙ H.moved (512 + i) 0 (omega arith) (omega arith) in
        let p3 : at b' (512 + suc i) ≡ at b (512 + i) = in_bytes (suc i) (λ e. omega arith) ∙ ap (at b₁) e2 ∙ B.moved (512 + i) 0 (omega arith) (omega arith) in
        cc

    abbrev g : ℕ → Queued
    g = queued_at w h b

    held : map record_q (frames_of x q) ≡ seats n g
    held = frames-records x q r.exact ∙ take-seats n 256 g r.exact.few

    records : used_q (queue_in w' h' b') ≡ map record_q (with_at k f (frames_of x q))
    records =
        ap (λ (j : ℕ). take j (seats 256 (queued_at w' h' b'))) counted
        ∙ take-seats (n + 1) 256 (queued_at w' h' b') (omega (arith, r.free))
        ∙ ap (λ (j : ℕ). seats j (queued_at w' h' b')) (add-one n)
        ∙ seats_with k n (queued_at w' h' b') g (record_q f) r.within before here after
        ∙ sym
        (map-append record_q (take k (frames_of x q)) (f ∷ drop k (frames_of x q))
        ∙ ap (λ (l : List Queued). l ++ (record_q f ∷ map record_q (drop k (frames_of x q)))) (map-take record_q k (frames_of x q) ∙ ap (take k) held)
        ∙ ap (λ (l : List Queued). take k (seats n g) ++ (record_q f ∷ l)) (map-drop record_q k (frames_of x q) ∙ ap (drop k) held))

    raised : OnlyQueue w h b w₁ h₁ b₁
    raised =
        record {
          words = W.size;
          halves = H.size;
          bytes = B.size;
          below = λ i l m. W.below i 0 (omega arith);
          above = λ i l. W.above i 0 (omega (arith, r.free));
          unacked = λ i l. H.below i 0 (omega arith);
          clock = λ i l. H.above i 0 (omega (arith, r.free));
          flags = λ i l. B.below i 0 (omega arith);
          rest = λ i l. B.above i 0 (omega (arith, r.free));
        }

    pub put_in : (from end : ℕ) → from ≡ bodies h k → end ≡ bodies h (at w 4) → (q₁ q₂ : Bytes) → q₁ ≡ placed q (from + length body) (take (end - from) (drop from q))
        → q₂ ≡ placed q₁ from body
        → Requeued (with_at k (arrived number kind body) (frames_of (queue_in w h b) q)) w h b q (set (set w₁ (16 + k) number) 4 (at w 4 + 1)) (set h₁ (512 + k) (length body)) (set b₁ (512 + k) kind) q₂
    put_in from end ef ee q₁ q₂ e₁ e₂ =
        record {
          repacked =
              recast r.exact
              (inserted x q k f r from end (ef ∙ sym (start-bodies w h b k r.within r.exact.few)) (ee ∙ sym (end-bodies w h b r.exact.few))
              q₁ q₂ (placed x.records (k + 1) (take (x.count - k) (drop k x.records))) e₁ e₂ refl)
              (queue_in w' h' b') (length-seats 256 (queued_at w' h' b')) (omega (arith, counted, r.free)) records;
          only = only_set w h b w₁ h₁ b₁ k number (n + 1) (length body) kind raised (omega (arith, r.within, r.free));
        }

-- ---- by rising number

module _ (w h b : List ℕ) (q : Bytes) (number kind : ℕ) (body : Bytes) (r : Enters (queue_in w h b) q number (length body)) (k : ℕ) (l : Leads number (queue_in w h b) k) where
  abbrev a : R.Frame
  a = arrived number kind body

  abbrev fs : List R.Frame
  fs = frames_of (queue_in w h b) q

  pub room_for : Room (queue_in w h b) (length q) k (length body)
  room_for = record { exact = r.exact; within = l.within; free = r.free; short = r.short }

  pub put-at : (w' h' b' : List ℕ) (q' : Bytes) → Requeued (with_at k (arrived number kind body) (frames_of (queue_in w h b) q)) w h b q w' h' b' q'
      → Requeued (put frame_number (arrived number kind body) (frames_of (queue_in w h b) q)) w h b q w' h' b' q'
  put-at w' h' b' q' g = record { repacked = repacked_as (sym (put_is a (queue_in w h b) q k r.new l)) g.repacked; only = g.only }

  module _ (last : k ≡ at w 4) where
    whole : take k fs ++ (a ∷ drop k fs) ≡ fs ++ (a ∷ [])
    whole =
        ap (λ (xs : List R.Frame). xs ++ (a ∷ drop k fs)) (take_all k fs (omega (arith, frames-length (queue_in w h b) q r.exact)))
        ∙ ap (λ (xs : List R.Frame). fs ++ (a ∷ xs)) (ap (λ (j : ℕ). drop j fs) last ∙ none_left (queue_in w h b) q r.exact)

    pub put_last : (w' h' b' : List ℕ) (q' : Bytes) → Joined number kind body w h b q w' h' b' q'
        → Requeued (put frame_number (arrived number kind body) (frames_of (queue_in w h b) q)) w h b q w' h' b' q'
    put_last w' h' b' q' j =
        put-at w' h' b' q'
        (record {
          repacked = repacked_as (sym whole) j.repacked;
          only =
              subst (λ (v : List ℕ). OnlyQueue w h b v h' b') (sym j.words)
              (subst (λ (v : List ℕ). OnlyQueue w h b (set (set w (16 + at w 4) number) 4 (at w 4 + 1)) v b') (sym j.halves)
              (subst (λ (v : List ℕ). OnlyQueue w h b (set (set w (16 + at w 4) number) 4 (at w 4 + 1)) (set h (512 + at w 4) (length body)) v) (sym j.bytes)
              (only_set w h b w h b (at w 4) number (at w 4 + 1) (length body) kind (only_same w h b) r.free)));
        })
