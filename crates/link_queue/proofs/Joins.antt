-- A frame that goes in after those that are queued. Assumes nothing.
use mathlib.Core.Path.{◌≡◌, refl, sym, ap, ◌∙◌}
use mathlib.Core.List.{List, [], ◌∷◌, ◌++◌, map, append-nil, append_assoc}
use Prim.Native.Nat.{ℕ, ◌+◌, ◌<◌}
use native.Mathlib.Omega.{arith}
use lib.ListN.{length, take, drop, set, length-set, length-append}
use lib.Seq.{get_or-set_same, get_or-set_other, length-take-le}
use Rattle.stores.specs.Placed.{placed}
use Rattle.stores.proofs.Packs.{map-append, repacked-grown}
use Rattle.rules.specs.Lists.{Bytes, packed}
use Rattle.rules.specs.State as R
use Rattle.rules.specs.State.{frame_body}
use Rattle.rules.specs.Buffers.{repacked}
use Rattle.rules.proofs.Lists.{packed-append}
use Rattle.queue.specs.declared.Queued.{Queued}
use Rattle.queue.specs.declared.Queue.{Queue}
use Rattle.queue.specs.View.{record_q, used_q, frames_of, end_q}
use Rattle.queue.specs.Steps.{arrived}
use Rattle.queue.proofs.View.{frames-records, frames-bytes, repacked-is}
use Rattle.parts.specs.Seats.{seats}
use Rattle.parts.specs.Parts.{at, queued_at, queue_in}
use Rattle.parts.proofs.Seats.{length-seats, seats-same, take-seats, seats_snoc}
use Rattle.link_queue.specs.Joins.{Joins, Joined}

module _ (w h b : List ℕ) (q : Bytes) (number kind : ℕ) (body : Bytes) (end : ℕ) (pre : Joins w h b (length q) end (length body)) where
  abbrev n : ℕ
  n = at w 4

  abbrev x : Queue
  x = queue_in w h b

  abbrev w₁ : List ℕ
  w₁ = set w (16 + n) number

  abbrev w' : List ℕ
  w' = set w₁ 4 (n + 1)

  abbrev h' : List ℕ
  h' = set h (512 + n) (length body)

  abbrev b' : List ℕ
  b' = set b (512 + n) kind

  free : n < 256
  free = pre.room.free

  counted : at w' 4 ≡ n + 1
  counted = get_or-set_same w₁ 4 (n + 1) 0 (omega (arith, length-set w (16 + n) number, pre.words))

  old : (i : ℕ) → i < n → queued_at w' h' b' i ≡ queued_at w h b i
  old i l =
      let e₀ : at w' (16 + i) ≡ at w₁ (16 + i) = get_or-set_other w₁ 4 (16 + i) (n + 1) 0 (λ z. omega arith) in
      let e₁ : at w₁ (16 + i) ≡ at w (16 + i) = get_or-set_other w (16 + n) (16 + i) number 0 (λ z. omega arith) in
      let e₂ : at h' (512 + i) ≡ at h (512 + i) = get_or-set_other h (512 + n) (512 + i) (length body) 0 (λ z. omega arith) in
      let e₃ : at b' (512 + i) ≡ at b (512 + i) = get_or-set_other b (512 + n) (512 + i) kind 0 (λ z. omega arith) in
      cc

  newest : queued_at w' h' b' n ≡ record_q (arrived number kind body)
  newest =
      let e₀ : at w' (16 + n) ≡ at w₁ (16 + n) = get_or-set_other w₁ 4 (16 + n) (n + 1) 0 (λ z. omega arith) in
      let e₁ : at w₁ (16 + n) ≡ number = get_or-set_same w (16 + n) number 0 (omega (arith, free, pre.words)) in
      let e₂ : at h' (512 + n) ≡ length body = get_or-set_same h (512 + n) (length body) 0 (omega (arith, free, pre.halves)) in
      let e₃ : at b' (512 + n) ≡ kind = get_or-set_same b (512 + n) kind 0 (omega (arith, free, pre.bytes)) in
      cc

  used : used_q (queue_in w' h' b') ≡ used_q x ++ (record_q (arrived number kind body) ∷ [])
  used =
      ap (λ (k : ℕ). take k (seats 256 (queued_at w' h' b'))) counted
      ∙ take-seats (n + 1) 256 (queued_at w' h' b') (omega (arith, free))
      ∙ seats_snoc n (queued_at w' h' b')
      ∙ ap (λ (l : List Queued). l ++ (queued_at w' h' b' n ∷ [])) (seats-same n (queued_at w' h' b') (queued_at w h b) old)
      ∙ ap (λ (u : Queued). seats n (queued_at w h b) ++ (u ∷ [])) newest
      ∙ ap (λ (l : List Queued). l ++ (record_q (arrived number kind body) ∷ [])) (sym (take-seats n 256 (queued_at w h b) (omega (arith, free))))

  abbrev gs : List R.Frame
  gs = frames_of x q ++ (arrived number kind body ∷ [])

  recorded : map record_q gs ≡ used_q x ++ (record_q (arrived number kind body) ∷ [])
  recorded =
      map-append record_q (frames_of x q) (arrived number kind body ∷ [])
      ∙ ap (λ (l : List Queued). l ++ (record_q (arrived number kind body) ∷ [])) (frames-records x q pre.room.exact)

  bodies : packed frame_body gs ≡ take (end_q x) q ++ body
  unfolding packed
  bodies =
      packed-append frame_body (frames_of x q) (arrived number kind body ∷ [])
      ∙ ap (λ (l : Bytes). l ++ (body ++ [])) (frames-bytes x q pre.room.exact)
      ∙ ap (λ (l : Bytes). take (end_q x) q ++ l) (append-nil body)

  sized : length (take (end_q x) q ++ body) ≡ end_q x + length body
  sized = length-append (take (end_q x) q) body ∙ ap (λ (k : ℕ). k + length body) (length-take-le (end_q x) q (omega (arith, pre.room.exact.small, pre.room.exact.room)))

  stored : (q' : Bytes) → q' ≡ placed q end body → q' ≡ repacked (end_q x) (packed frame_body gs) q
  unfolding placed
  stored q' e =
      e
      ∙ ap (λ (k : ℕ). placed q k body) pre.is
      ∙ sym (append_assoc (take (end_q x) q) body (drop (end_q x + length body) q))
      ∙ ap (λ (k : ℕ). (take (end_q x) q ++ body) ++ drop k q) (sym sized)
      ∙ sym (repacked-grown (end_q x) (take (end_q x) q ++ body) q (omega (arith, sized)))
      ∙ ap (λ (l : Bytes). repacked (end_q x) l q) (sym bodies)

  pub is_joined : {q' : Bytes} → q' ≡ placed q end body → Joined number kind body w h b q w' h' b' q'
  is_joined {q'} e =
      record {
        repacked =
            repacked-is x q gs (queue_in w' h' b') q' pre.room.exact (length-seats 256 (queued_at w' h' b')) (omega (arith, counted, free)) (used ∙ sym recorded)
            (omega (arith, ap length bodies, sized, pre.room.short)) (stored q' e);
        words = refl;
        halves = refl;
        bytes = refl;
      }
