-- What a loop keeps that drops elements from an array in one pass, with two cursors: each element in turn is stored at the lower cursor, which goes
-- on where the element passes a test. `Sifted p l₀ n l i k`: of the first i of n elements of l₀ the k that pass stand at the front of l, and those
-- from index i on are as they were. Assumes nothing.
use Rattle.std.specs.Prelude.{if◌then◌else◌}
use mathlib.Core.Path.{◌≡◌, refl, sym, ap, ◌∙◌}
use mathlib.Core.Bool.{Bool, true, false}
use mathlib.Core.List.{List, [], ◌∷◌, ◌++◌, append-nil}
use Prim.Native.Nat.{ℕ, ◌+◌, ◌≤◌, ◌<◌}
use native.Mathlib.Omega.{arith}
use native.Mathlib.Nat.{add-zero}
use native.Mathlib.Numerals.{add-one}
use lib.ListN.{length, take, drop, get_or, set, length-set}
use lib.Seq.{take-suc, take-set-le, drop-set-lt, get_or-drop, drop-drop, length-take-le}
use Rattle.rules.specs.Lists.{kept}
use Rattle.rules.proofs.Lists.{kept_append}
use Rattle.stores.proofs.Packs.{take_set_snoc}

pub record Sifted {A : Type 0} (p : A → Bool) (l₀ : List A) (n : ℕ) (l : List A) (i k : ℕ) : Type 0 where
  pub room : n ≤ length l₀
  pub within : i ≤ n
  pub behind : k ≤ i
  pub same : length l ≡ length l₀
  pub held : take k l ≡ kept p (take i l₀)
  pub later : drop i l ≡ drop i l₀

pub sifted_none : {A : Type 0} (p : A → Bool) (l₀ : List A) (n : ℕ) → n ≤ length l₀ → Sifted p l₀ n l₀ 0 0
unfolding kept
sifted_none p l₀ n h = record { room = h; within = omega arith; behind = omega arith; same = refl; held = refl; later = refl }

-- one more of the elements that a test keeps
pub kept_next : {A : Type 0} (p : A → Bool) (l : List A) (i : ℕ) (d : A) → i < length l
    → kept p (take (i + 1) l) ≡ kept p (take i l) ++ kept p (get_or l i d ∷ [])
kept_next p l i d h =
    ap (λ (j : ℕ). kept p (take j l)) (add-one i) ∙ ap (kept p) (take-suc l i d h) ∙ kept_append p (take i l) (get_or l i d ∷ [])

module _ {A : Type 0} {p : A → Bool} {l₀ : List A} {n : ℕ} {l : List A} {i k : ℕ} (s : Sifted p l₀ n l i k) (d : A) (h : i < n) where
  -- an element that is not looked at yet
  pub sifted_at : get_or l i d ≡ get_or l₀ i d
  sifted_at =
      ap (λ (j : ℕ). get_or l j d) (sym (add-zero i))
      ∙ sym (get_or-drop i l 0 d)
      ∙ ap (λ (x : List A). get_or x 0 d) s.later
      ∙ get_or-drop i l₀ 0 d
      ∙ ap (λ (j : ℕ). get_or l₀ j d) (add-zero i)

  pub sifted_more : (v : ℕ) → v ≡ (if p (get_or l i d) then 1 else 0) → Sifted p l₀ n (set l k (get_or l i d)) (i + 1) (k + v)
  unfolding kept
  sifted_more v ev = go (p x) refl ev
    where
      x : A
      x = get_or l i d

      next : kept p (take (i + 1) l₀) ≡ take k l ++ kept p (x ∷ [])
      next =
          kept_next p l₀ i d (omega (arith, s.room))
          ∙ ap (λ (y : List A). y ++ kept p (get_or l₀ i d ∷ [])) (sym s.held)
          ∙ ap (λ (y : A). take k l ++ kept p (y ∷ [])) (sym sifted_at)

      kl : k < length l
      kl = omega (arith, s.room, s.behind, s.same)

      last : drop (i + 1) (set l k x) ≡ drop (i + 1) l₀
      last =
          drop-set-lt (i + 1) l k x (omega (arith, s.behind))
          ∙ sym (drop-drop 1 i l)
          ∙ ap (drop 1) s.later
          ∙ drop-drop 1 i l₀

      made : (b : ℕ) → k + b ≤ i + 1 → take (k + b) (set l k x) ≡ kept p (take (i + 1) l₀) → Sifted p l₀ n (set l k x) (i + 1) (k + b)
      made b w e =
          record { room = s.room; within = omega arith; behind = w; same = length-set l k x ∙ s.same; held = e; later = last }

      go : (t : Bool) → p x ≡ t → v ≡ (if t then 1 else 0) → Sifted p l₀ n (set l k x) (i + 1) (k + v)
      go true e q =
          made v (omega (arith, s.behind))
          (ap (λ (j : ℕ). take (k + j) (set l k x)) q
          ∙ take_set_snoc l k x kl
          ∙ ap (λ (b : Bool). take k l ++ (if b then (x ∷ []) else [])) (sym e)
          ∙ sym next)
      go false e q =
          made v (omega (arith, s.behind))
          (ap (λ (j : ℕ). take (k + j) (set l k x)) q
          ∙ ap (λ (j : ℕ). take j (set l k x)) (add-zero k)
          ∙ take-set-le k l k x (omega arith)
          ∙ sym (append-nil (take k l))
          ∙ ap (λ (b : Bool). take k l ++ (if b then (x ∷ []) else [])) (sym e)
          ∙ sym next)

pub sifted_all : {A : Type 0} {p : A → Bool} {l₀ : List A} {n : ℕ} {l : List A} {i k : ℕ} → Sifted p l₀ n l i k → n ≤ i
    → (take k l ≡ kept p (take n l₀)) × (k ≡ length (kept p (take n l₀))) × (k ≤ n)
sifted_all {A = A} {p} {l₀} {n} {l} {i} {k} s h =
    let e : i ≡ n = omega (arith, s.within) in
    let held : take k l ≡ kept p (take n l₀) = s.held ∙ ap (λ (j : ℕ). kept p (take j l₀)) e in
    let size : length (take k l) ≡ k = length-take-le k l (omega (arith, s.room, s.behind, s.same)) in
    (held, sym size ∙ ap length held, omega (arith, s.behind))
