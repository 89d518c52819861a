-- A frame put in, and a front taken out: bytes, records, and both. Assumes nothing.
use mathlib.Core.Path.{◌≡◌, refl, sym, ap, ◌∙◌}
use mathlib.Core.List.{List, [], ◌∷◌, ◌++◌, map, append_assoc}
use Prim.Native.Nat.{ℕ, ◌+◌, ◌-◌, ◌≤◌}
use native.Mathlib.Omega.{arith}
use lib.ListN.{length, take, drop, set, replicate, length-append, length-take, length-drop, length-replicate, length-set, drop_of_length-le}
use lib.Seq.{take-take}
use Rattle.stores.specs.Placed.{placed}
use Rattle.rules.specs.Buffers.{repacked}
use Rattle.stores.proofs.Laws.{length-placed, take_placed_le, take-placed-end, drop-placed, drop_placed_ge}
use Rattle.stores.proofs.Packs.{packed-cut, map-append, map-take, map-drop, take-cut, drop-cut, total_split, drop-take, opened, repacked-grown, repacked_shrunk}
use Rattle.rules.specs.Lists.{Bytes, total, packed}
use Rattle.rules.specs.State as R
use Rattle.rules.specs.State.{frame_body}
use Rattle.rules.proofs.Lists.{packed-append}
use Rattle.queue.specs.declared.Queued.{Queued}
use Rattle.queue.specs.declared.Queue.{Queue}
use Rattle.queue.specs.View.{len_q, frame, record_q, used_q, frames_of, end_q, ExactQueue, Repacked}
use Rattle.queue.specs.Steps.{Room, with_at}
use Rattle.queue.proofs.View.{frames-length, frames-records, repacked-is}

-- ---- bytes

-- the bytes from index a up to index T move up, and b goes in at a
module _ (s s₁ s₂ b : Bytes) (a T : ℕ) (h : a ≤ T) (room : T + length b ≤ length s) (e₁ : s₁ ≡ placed s (a + length b) (take (T - a) (drop a s)))
    (e₂ : s₂ ≡ placed s₁ a b) where
  moved_up : length (take (T - a) (drop a s)) ≡ T - a
  moved_up = simp (length-take, length-drop) (omega arith)

  opened_size : length (take a s ++ (b ++ take (T - a) (drop a s))) ≡ T + length b
  opened_size = simp (length-append, length-take, length-drop) (omega arith)

  after : s₂ ≡ (take a s ++ (b ++ take (T - a) (drop a s))) ++ drop (T + length b) s
  unfolding placed
  after =
      let M : Bytes = take (T - a) (drop a s) in
      let room₁ : a + length b + length M ≤ length s = omega (arith, moved_up) in
      let front : take a s₁ ≡ take a s = ap (take a) e₁ ∙ take_placed_le s (a + length b) M room₁ a (omega arith) in
      let at : a + length b + length M ≡ T + length b = omega (arith, moved_up) in
      let back : drop (a + length b) s₁ ≡ M ++ drop (T + length b) s =
      ap (drop (a + length b)) e₁ ∙ drop-placed s (a + length b) M room₁ ∙ ap (λ (j : ℕ). M ++ drop j s) at in
      e₂
      ∙ ap (λ (l : Bytes). l ++ (b ++ drop (a + length b) s₁)) front
      ∙ ap (λ (l : Bytes). take a s ++ (b ++ l)) back
      ∙ ap (λ (l : Bytes). take a s ++ l) (sym (append_assoc b M (drop (T + length b) s)))
      ∙ sym (append_assoc (take a s) (b ++ M) (drop (T + length b) s))

  opened_bytes : s₂ ≡ repacked T (take a s ++ (b ++ take (T - a) (drop a s))) s
  opened_bytes =
      after
      ∙ ap (λ (j : ℕ). (take a s ++ (b ++ take (T - a) (drop a s))) ++ drop j s) (sym opened_size)
      ∙ sym (repacked-grown T (take a s ++ (b ++ take (T - a) (drop a s))) s (omega (arith, opened_size)))

-- the n bytes from index a up to index T move to the front, and what they leave is cleared
module _ (s s₁ s₂ : Bytes) (a n T : ℕ) (h : a ≤ T) (room : T ≤ length s) (en : n ≡ T - a) (e₁ : s₁ ≡ placed s 0 (take n (drop a s))) (Z : Bytes)
    (eZ : Z ≡ replicate (T - n) 0) (e₂ : s₂ ≡ placed s₁ n Z) where
  moved_down : length (take n (drop a s)) ≡ n
  moved_down = simp (length-take, length-drop) (omega arith)

  lowered_bytes : s₂ ≡ repacked T (take n (drop a s)) s
  unfolding placed
  lowered_bytes =
      let room₁ : 0 + length (take n (drop a s)) ≤ length s = omega (arith, moved_down) in
      let size : length Z ≡ T - n = ap length eZ ∙ length-replicate (T - n) 0 in
      let at : n ≡ 0 + length (take n (drop a s)) = omega (arith, moved_down) in
      let end : n + length Z ≡ T = omega arith in
      let front : take n s₁ ≡ take n (drop a s) = ap (λ (j : ℕ). take j s₁) at ∙ ap (take (0 + length (take n (drop a s)))) e₁ ∙ take-placed-end s 0 (take n (drop a s)) room₁ in
      let back : drop T s₁ ≡ drop T s = ap (drop T) e₁ ∙ drop_placed_ge s 0 (take n (drop a s)) room₁ T (omega arith) in
      e₂
      ∙ ap (λ (l : Bytes). l ++ (Z ++ drop (n + length Z) s₁)) front
      ∙ ap (λ (j : ℕ). take n (drop a s) ++ (Z ++ drop j s₁)) end
      ∙ ap (λ (l : Bytes). take n (drop a s) ++ (Z ++ l)) back
      ∙ ap (λ (l : Bytes). take n (drop a s) ++ (l ++ drop T s)) eZ
      ∙ ap (λ (j : ℕ). take n (drop a s) ++ (replicate (T - j) 0 ++ drop T s)) (sym moved_down)
      ∙ sym (repacked_shrunk T (take n (drop a s)) s (omega (arith, moved_down)))

-- ---- where the body of frame k starts

module _ (x : Queue) (k : ℕ) where
  pub start-within : total len_q (take k (used_q x)) ≤ end_q x
  start-within = omega (arith, total_split len_q frame k (used_q x))

  -- as a loop over the records sums it up
  pub start_plain : k ≤ x.count → total len_q (take k (used_q x)) ≡ total len_q (take k x.records)
  start_plain h = ap (total len_q) (take-take k x.count x.records h)

  module _ (q : Bytes) (a T : ℕ) (ea : a ≡ total len_q (take k (used_q x))) (eT : T ≡ end_q x) where
    bodies-before : packed frame_body (take k (frames_of x q)) ≡ take a q
    unfolding frames_of
    bodies-before =
        ap (packed frame_body) (take-cut len_q frame k (used_q x) q)
        ∙ packed-cut len_q frame frame_body (λ u b. refl) (take k (used_q x)) q
        ∙ ap (λ (j : ℕ). take j q) (sym ea)

    bodies-after : packed frame_body (drop k (frames_of x q)) ≡ take (T - a) (drop a q)
    unfolding frames_of
    bodies-after =
        let rest : total len_q (drop k (used_q x)) ≡ T - a = omega (arith, total_split len_q frame k (used_q x)) in
        ap (packed frame_body) (drop-cut len_q frame k (used_q x) q)
        ∙ packed-cut len_q frame frame_body (λ u b. refl) (drop k (used_q x)) (drop (total len_q (take k (used_q x))) q)
        ∙ ap (λ (j : ℕ). take j (drop (total len_q (take k (used_q x))) q)) rest
        ∙ ap (λ (j : ℕ). take (T - a) (drop j q)) (sym ea)

pub start-all : (x : Queue) → total len_q (take x.count (used_q x)) ≡ end_q x
start-all x = start_plain x x.count (omega arith)

-- ---- a frame put in at index k

module _ (x : Queue) (q : Bytes) (k : ℕ) (f : R.Frame) (r : Room x (length q) k (length f.body)) (a T : ℕ) (ea : a ≡ total len_q (take k (used_q x))) (eT : T ≡ end_q x) where
  bodies_with : packed frame_body (with_at k f (frames_of x q)) ≡ take a q ++ (f.body ++ take (T - a) (drop a q))
  unfolding packed
  bodies_with =
      packed-append frame_body (take k (frames_of x q)) (f ∷ drop k (frames_of x q))
      ∙ ap (λ (l : Bytes). l ++ (f.body ++ packed frame_body (drop k (frames_of x q)))) (bodies-before x k q a T ea eT)
      ∙ ap (λ (l : Bytes). take a q ++ (f.body ++ l)) (bodies-after x k q a T ea eT)

  records_with : map record_q (with_at k f (frames_of x q)) ≡ take k (used_q x) ++ (record_q f ∷ drop k (used_q x))
  records_with =
      let e : map record_q (frames_of x q) ≡ used_q x = frames-records x q r.exact in
      map-append record_q (take k (frames_of x q)) (f ∷ drop k (frames_of x q))
      ∙ ap (λ (l : List Queued). l ++ (record_q f ∷ map record_q (drop k (frames_of x q)))) (map-take record_q k (frames_of x q) ∙ ap (take k) e)
      ∙ ap (λ (l : List Queued). take k (used_q x) ++ (record_q f ∷ l)) (map-drop record_q k (frames_of x q) ∙ ap (drop k) e)

  pub inserted : (q₁ q₂ : Bytes) (up : List Queued) → q₁ ≡ placed q (a + length f.body) (take (T - a) (drop a q)) → q₂ ≡ placed q₁ a f.body
      → up ≡ placed x.records (k + 1) (take (x.count - k) (drop k x.records))
      → Repacked x q (with_at k f (frames_of x q)) (record { records = set up k (record_q f); count = x.count + 1 }) q₂
  inserted q₁ q₂ up e₁ e₂ eu =
      let w : a ≤ T = omega (arith, start-within x k) in
      let full : length x.records ≡ 256 = r.exact.full in
      let lb : length (take (x.count - k) (drop k x.records)) ≡ x.count - k = simp (length-take, length-drop) (omega (arith, r.within, r.free)) in
      let room : T + length f.body ≤ length q = omega (arith, r.short, r.exact.room) in
      let size : length (packed frame_body (with_at k f (frames_of x q))) ≡ T + length f.body =
      ap length bodies_with ∙ opened_size q q₁ q₂ f.body a T w room e₁ e₂ in
      repacked-is x q (with_at k f (frames_of x q)) (record { records = set up k (record_q f); count = x.count + 1 }) q₂ r.exact
      (length-set up k (record_q f)
      ∙ ap length eu
      ∙ length-placed x.records (k + 1) (take (x.count - k) (drop k x.records)) (omega (arith, r.within, r.free))
      ∙ full)
      (omega (arith, r.free))
      (ap (λ (l : List Queued). take (x.count + 1) (set l k (record_q f))) eu
      ∙ opened x.records k x.count (record_q f) r.within (omega (arith, r.free))
      ∙ sym records_with)
      (omega (arith, r.short))
      (opened_bytes q q₁ q₂ f.body a T w room e₁ e₂
      ∙ ap (λ (j : ℕ). repacked j (take a q ++ (f.body ++ take (T - a) (drop a q))) q) eT
      ∙ ap (λ (l : Bytes). repacked (end_q x) l q) (sym bodies_with))

-- ---- the first k frames taken out

module _ (x : Queue) (q : Bytes) (k : ℕ) (within : k ≤ x.count) (e : ExactQueue x (length q)) (a T n : ℕ) (ea : a ≡ total len_q (take k (used_q x))) (eT : T ≡ end_q x)
    (en : n ≡ T - a) where
  records-left : (down : List Queued) → down ≡ placed x.records 0 (take (x.count - k) (drop k x.records))
      → (take (x.count - k) down ≡ map record_q (drop k (frames_of x q))) × (length down ≡ 256)
  records-left down ed =
      let B : List Queued = take (x.count - k) (drop k x.records) in
      let lb : length B ≡ x.count - k = simp (length-take, length-drop) (omega (arith, e.full, e.few)) in
      let room : 0 + length B ≤ length x.records = omega (arith, e.full, e.few) in
      let at : x.count - k ≡ 0 + length B = omega arith in (
        ap (take (x.count - k)) ed
            ∙ ap (λ (j : ℕ). take j (placed x.records 0 B)) at
            ∙ take-placed-end x.records 0 B room
            ∙ sym (drop-take k x.count x.records)
            ∙ ap (drop k) (sym (frames-records x q e))
            ∙ sym (map-drop record_q k (frames_of x q)),
        ap length ed ∙ length-placed x.records 0 B room ∙ e.full,
      )

  pub dropped : (q₁ q₂ : Bytes) (down : List Queued) (Z : Bytes) → q₁ ≡ placed q 0 (take n (drop a q)) → Z ≡ replicate (T - n) 0 → q₂ ≡ placed q₁ n Z
      → down ≡ placed x.records 0 (take (x.count - k) (drop k x.records))
      → Repacked x q (drop k (frames_of x q)) (record { records = down; count = x.count - k }) q₂
  dropped q₁ q₂ down Z e₁ eZ e₂ ed =
      let w : a ≤ T = omega (arith, start-within x k) in
      let room : T ≤ length q = omega (arith, e.small, e.room) in
      let bodies : packed frame_body (drop k (frames_of x q)) ≡ take n (drop a q) =
      bodies-after x k q a T ea eT ∙ ap (λ (j : ℕ). take j (drop a q)) (sym en) in
      let size : length (packed frame_body (drop k (frames_of x q))) ≡ n = ap length bodies ∙ moved_down q q₁ q₂ a n T w room en e₁ Z eZ e₂ in
      let l = records-left down ed in
      repacked-is x q (drop k (frames_of x q)) (record { records = down; count = x.count - k }) q₂ e l.1 (omega (arith, e.few)) l.0
      (omega (arith, e.small))
      (lowered_bytes q q₁ q₂ a n T w room en e₁ Z eZ e₂
      ∙ ap (λ (j : ℕ). repacked j (take n (drop a q)) q) eT
      ∙ ap (λ (b : Bytes). repacked (end_q x) b q) (sym bodies))

-- all of them
pub none_left : (x : Queue) (q : Bytes) → ExactQueue x (length q) → drop x.count (frames_of x q) ≡ []
none_left x q e =
    let h : length (frames_of x q) ≤ x.count = omega (arith, frames-length x q e) in
    drop_of_length-le (frames_of x q) h
