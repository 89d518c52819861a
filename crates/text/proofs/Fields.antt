-- The laws of fields, and of a line that is gathered. Assumes nothing.
use mathlib.Core.Path.{◌≡◌, refl, sym, ap, subst, ◌∙◌}
use mathlib.Core.Bool.{Bool, true, false, not}
use mathlib.Core.List.{List, []}
use Prim.Native.Nat.{ℕ, ◌+◌, ◌-◌, ◌≤◌, ◌<◌}
use native.Mathlib.Omega.{arith}
use lib.Dec.{leb, ltb}
use lib.ListN.{length, take, drop}
use borrow.Author.Tests.{le-leb, lt-leb, lt-ltb, le-ltb, ltb-true, ltb-false}
use Rattle.rules.specs.Lists.{before, same}
use Rattle.stores.specs.Placed.{placed}
use denote.Bor.{Bor}
use Rattle.std.specs.Prelude.{if◌then◌else◌, Option, Some, None}
use Rattle.std.specs.Option.{unwrap_or}
use Rattle.std.specs.Slice.{IsGetRangeResult}
use Rattle.std.proofs.Common.{inl, inr}
use Rattle.std.specs.List.{position, position_or_len}
use Rattle.std.proofs.lemmas.Option.{cond_some, none-some}
use Rattle.std.proofs.lemmas.List.Recursion.{is_position_or_len}
use Rattle.std.proofs.lemmas.List.Sums.{prefix_len-le-length}
use Rattle.std.proofs.Common.{length-drop}
use Rattle.text.specs.Fields.{one, is, place_of, Found, field_of, between, has_word, grown_size, grown, Grown, part_of, next_of, Gathered}

-- where the first b is, as `position` counts
place-position : (b : ℕ) (s : List ℕ) → before one (is b) s ≡ position_or_len (is b) s
unfolding before
place-position b s = is_position_or_len (before one (is b)) (is b) refl (λ x xs. refl) s

module _ (b : ℕ) (s : List ℕ) (at : ℕ) (h : at ≤ length s) {o : Option ℕ} (e : o ≡ position (is b) (drop at s)) where
  place : place_of b s at ≡ at + position_or_len (is b) (drop at s)
  unfolding place_of
  place = ap (λ (k : ℕ). at + k) (place-position b (drop at s))

  pub found_some : (i : ℕ) → o ≡ Some i → Found b s at (at + i)
  found_some i f =
      let c : (ltb (position_or_len (is b) (drop at s)) (length (drop at s)) ≡ true) × (position_or_len (is b) (drop at s) ≡ i) = cond_some _ _ i (sym e ∙ f) in
      let l : position_or_len (is b) (drop at s) < length (drop at s) = ltb-true _ _ c.0 in
      record { place = omega (arith, place, c.1); from = omega arith; within = omega (arith, l, c.1, length-drop at s) }

  pub found_none : o ≡ None → Found b s at (length s)
  found_none f = go _ refl
    where
      go : (t : Bool) → ltb (position_or_len (is b) (drop at s)) (length (drop at s)) ≡ t → Found b s at (length s)
      go true t = absurd (none-some (position_or_len (is b) (drop at s)) (sym f ∙ e ∙ rw t))
      go false t =
          let l : length (drop at s) ≤ position_or_len (is b) (drop at s) = ltb-false _ _ t in
          record { place = omega (arith, place, l, prefix_len-le-length (λ (x : ℕ). not (is b x)) (drop at s), length-drop at s); from = h; within = omega arith }

module _ (line : List ℕ) (n : ℕ) (part : List ℕ) where
  pub grown-long : length line < n + length part → Grown line n part (length line + 1) line
  unfolding grown_size grown
  grown-long h =
      let e : leb (n + length part) (length line) ≡ false = lt-leb _ _ h in
      record { size = rw e; bytes = rw e }

  pub grown-fits : (line' : List ℕ) → n + length part ≤ length line → line' ≡ placed line n part → Grown line n part (n + length part) line'
  unfolding grown_size grown
  grown-fits line' h f =
      let e : leb (n + length part) (length line) ≡ true = le-leb _ _ h in
      record { size = rw e; bytes = rw e f }

pub field_part : (s : List ℕ) (at e : ℕ) → Found 32 s at e → take (e - at) (drop at s) ≡ field_of s at
unfolding field_of
field_part s at e f = ap (λ (k : ℕ). take (k - at) (drop at s)) f.place

pub word_is : (s w : List ℕ) (e : ℕ) {t : Bool} → Found 32 s 0 e → t ≡ same (take (e - 0) (drop 0 s)) w → t ≡ has_word s w
unfolding has_word
word_is s w e f h = h ∙ ap (λ (l : List ℕ). same l w) (field_part s 0 e f)

-- ---- a line from chunks

module _ (chunk : List ℕ) (at : ℕ) {buffer line' : List ℕ} {n e size : ℕ} (f : Found 10 chunk at e)
    (w : Grown buffer n (take (e - at) (drop at chunk)) size line') where
  part-grown : Grown buffer n (part_of chunk at) size line'
  part-grown = subst (λ (l : List ℕ). Grown buffer n l size line') (ap (λ (k : ℕ). take (k - at) (drop at chunk)) f.place) w

  pub gathered_whole : e < length chunk → Gathered chunk at buffer n (record { size = size; next = Some (e + 1) }) line'
  unfolding next_of
  gathered_whole h =
      let t : ltb (place_of 10 chunk at) (length chunk) ≡ true = subst (λ (k : ℕ). ltb k (length chunk) ≡ true) f.place (lt-ltb e (length chunk) h) in
      record { line = part-grown; next = rw t (ap (λ (k : ℕ). Some (k + 1)) f.place); on = omega (arith, f.from); within = omega arith }

  pub gathered_part : length chunk ≤ e → Gathered chunk at buffer n (record { size = size; next = None }) line'
  unfolding next_of
  gathered_part h =
      let t : ltb (place_of 10 chunk at) (length chunk) ≡ false = subst (λ (k : ℕ). ltb k (length chunk) ≡ false) f.place (le-ltb e (length chunk) h) in
      record { line = part-grown; next = rw t; on = tt; within = tt }

-- ---- a part of a list that may not have it

between_none : {T : Type 0} (s : List T) (a e : ℕ) → e < a → [] ≡ between s a e
unfolding between
between_none {T} s a e h = let z : e - a ≡ 0 = omega arith in rw z (go (leb e (length s)))
  where
    go : (t : Bool) → [] ≡ (if t then take 0 (drop a s) else [])
    go true = refl
    go false = refl

pub between_got : {T : Type 0} (s : List T) (a e : ℕ) (r : Option (Bor (List T))) (d : Bor (List T)) → d.now ≡ [] → IsGetRangeResult s a e r → (unwrap_or r d).now ≡ between s a e
unfolding between
between_got s a e (Some x) d n h = rw (le-leb e _ h.0.1) h.0.2
between_got s a e None d n (inl h, k) = rw n (between_none s a e h)
between_got s a e None d n (inr h, k) = rw (lt-leb e (length s) h) n
