-- The laws of bytes in hex. Assumes nothing.
use mathlib.Core.Path.{◌≡◌, refl, sym, ap, subst, ◌∙◌}
use mathlib.Core.Bool.{Bool, true, false, not, ◌&&◌}
use mathlib.Core.List.{List, [], ◌∷◌}
use Prim.Native.Nat.{ℕ, zero, suc, ◌+◌, ◌*◌, ◌/◌, ◌%◌, ◌≤◌, ◌<◌}
use native.Mathlib.Omega.{arith}
use native.Mathlib.Nat.{zero-add}
use lib.Dec.{leb, eqb}
use lib.ListN.{length, drop, get_or, set, drop_of_length-le}
use lib.Seq.{drop-cons}
use borrow.Author.Tests.{ltb-true, lt-ltb, le-ltb, le-leb, lt-leb, eq-eqb, ne_eqb, eqb-true}
use Rattle.rules.specs.Lists.{all, empty, same}
use Rattle.rules.proofs.Lists.{and_left, and_right}
use Rattle.stores.specs.Placed.{placed}
use Rattle.stores.proofs.Laws.{placed-none}
use Rattle.stores.proofs.Runs.{Run, run_more}
use Rattle.std.specs.Prelude.{Some, None}
use Rattle.std.proofs.Common.{add-one}
use Rattle.text.specs.Hex.{pairs, is_dash, is_pairs, hex_of, fitting, Decoded}
use Rattle.text.specs.Numbers.{digit_of, is_digit_byte}

-- ---- all are digits

pub is_digit : (base b : ℕ) {d : ℕ} → d ≡ digit_of b → d < base → is_digit_byte base b ≡ true
unfolding is_digit_byte
is_digit base b e h = lt-ltb (digit_of b) base (omega arith)

pub no_digit : (base b : ℕ) {d : ℕ} → d ≡ digit_of b → base ≤ d → is_digit_byte base b ≡ false
unfolding is_digit_byte
no_digit base b e h = le-ltb (digit_of b) base (omega arith)

module _ (p : ℕ → Bool) (s : List ℕ) (i : ℕ) where
  here : i < length s → drop i s ≡ get_or s i 0 ∷ drop (i + 1) s
  here h = rw (add-one, drop-cons s i 0)

  pub all_more : i < length s → p (get_or s i 0) ≡ true → all p (drop i s) ≡ all p (drop (i + 1) s)
  unfolding all
  all_more h e = ap (all p) (here h) ∙ rw e

  pub all_stop : i < length s → p (get_or s i 0) ≡ false → all p (drop i s) ≡ false
  unfolding all
  all_stop h e = ap (all p) (here h) ∙ rw e

  pub all_done : length s ≤ i → all p (drop i s) ≡ true
  unfolding all
  all_done h = ap (all p) (drop_of_length-le s h)

all-at : (p : ℕ → Bool) (s : List ℕ) → all p s ≡ true → (i : ℕ) → i < length s → p (get_or s i 0) ≡ true
unfolding all
all-at p [] e i h = absurd (omega arith)
all-at p (x ∷ s) e zero h = and_left (p x) (all p s) e
all-at p (x ∷ s) e (suc i) h = all-at p s (and_right (p x) (all p s) e) i (omega arith)

pub digit_at : (s : List ℕ) → all (is_digit_byte 16) s ≡ true → (i : ℕ) → i < length s → digit_of (get_or s i 0) < 16
unfolding is_digit_byte
digit_at s e i h = ltb-true (digit_of (get_or s i 0)) 16 (all-at (is_digit_byte 16) s e i h)

-- ---- pairs

pub length_pairs : (s : List ℕ) (n : ℕ) → n + n ≡ length s → length (pairs s) ≡ n
unfolding pairs
length_pairs [] n h = omega arith
length_pairs (a ∷ []) n h = absurd (omega arith)
length_pairs (a ∷ b ∷ s) zero h = absurd (omega arith)
length_pairs (a ∷ b ∷ s) (suc n) h = ap suc (length_pairs s n (omega arith))

pub pairs-at : (s : List ℕ) (i : ℕ) → i + i + 1 < length s → get_or (pairs s) i 0 ≡ digit_of (get_or s (i + i) 0) * 16 + digit_of (get_or s (i + i + 1) 0)
unfolding pairs
pairs-at [] i h = absurd (omega arith)
pairs-at (a ∷ []) i h = absurd (omega arith)
pairs-at (a ∷ b ∷ s) zero h = refl
pairs-at (a ∷ b ∷ s) (suc i) h =
    let e : suc i + suc i ≡ suc (suc (i + i)) = omega arith in
    let f : suc i + suc i + 1 ≡ suc (suc (i + i + 1)) = omega arith in
    pairs-at s i (omega arith)
    ∙ ap (λ (k : ℕ). digit_of (get_or (a ∷ b ∷ s) k 0) * 16 + digit_of (get_or s (i + i + 1) 0)) (sym e)
    ∙ ap (λ (k : ℕ). digit_of (get_or (a ∷ b ∷ s) (suc i + suc i) 0) * 16 + digit_of (get_or (a ∷ b ∷ s) k 0)) (sym f)

-- what the loop keeps that writes the bytes, with its bound on s
pub run-pairs : (s : List ℕ) {out₀ out : List ℕ} {n i v : ℕ} → Run out₀ 0 (pairs s) n out i → n + n ≡ length s → i < n
    → v ≡ digit_of (get_or s (i + i) 0) * 16 + digit_of (get_or s (i + i + 1) 0) → Run out₀ 0 (pairs s) n (set out i v) (i + 1)
run-pairs s {out₀} {out} {n} {i} {v} r h k e =
    subst (λ (j : ℕ). Run out₀ 0 (pairs s) n (set out j v) (i + 1)) (zero-add i) (run_more r 0 v k (e ∙ sym (pairs-at s i (omega arith))))

-- ---- tests

pub dash_same : (s : List ℕ) → same s (45 ∷ []) ≡ is_dash s
unfolding is_dash same
dash_same [] = refl
dash_same (a ∷ []) = go (eqb a 45)
  where
    go : (t : Bool) → t && true ≡ t
    go true = refl
    go false = refl
dash_same (a ∷ b ∷ s) = go (eqb a 45) ∙ ap (λ (t : Bool). t && eqb a 45) (sym (ne_eqb (length (a ∷ b ∷ s)) 1 (λ e. omega (arith, e))))
  where
    go : (t : Bool) → t && false ≡ false
    go true = refl
    go false = refl

pub pairs-none : (s : List ℕ) → length s ≡ 0 → false ≡ is_pairs s
unfolding is_pairs
pairs-none [] h = refl
pairs-none (x ∷ s) h = absurd (omega arith)

module _ (s : List ℕ) (h : length s ≡ 0 → ⊥) where
  some_pairs : is_pairs s ≡ (eqb (length s % 2) 0 && all (is_digit_byte 16) s)
  unfolding is_pairs
  some_pairs = go s h
    where
      go : (l : List ℕ) → (length l ≡ 0 → ⊥) → (not (empty l) && (eqb (length s % 2) 0 && all (is_digit_byte 16) s)) ≡ (eqb (length s % 2) 0 && all (is_digit_byte 16) s)
      go [] f = absurd (f refl)
      go (x ∷ l) f = refl

  pub pairs_odd : (length s % 2 ≡ 0 → ⊥) → false ≡ is_pairs s
  pairs_odd f = sym (some_pairs ∙ rw (ne_eqb (length s % 2) 0 f))

  pub pairs_even : length s % 2 ≡ 0 → all (is_digit_byte 16) s ≡ is_pairs s
  pairs_even e = sym (some_pairs ∙ rw (eq-eqb (length s % 2) 0 e))

module _ (s : List ℕ) (e : is_pairs s ≡ true) where
  parts : (eqb (length s % 2) 0 && all (is_digit_byte 16) s) ≡ true
  unfolding is_pairs
  parts = and_right (not (empty s)) _ e

  pub halves : length s / 2 + length s / 2 ≡ length s
  halves = omega (arith, eqb-true (length s % 2) 0 (and_left (eqb (length s % 2) 0) (all (is_digit_byte 16) s) parts))

  pub digits : all (is_digit_byte 16) s ≡ true
  digits = and_right (eqb (length s % 2) 0) (all (is_digit_byte 16) s) parts

-- ---- what is read

pub decoded_dash : (s out : List ℕ) → is_dash s ≡ true → Decoded s out (Some 0) out
unfolding hex_of fitting
decoded_dash s out e =
    let z : leb 0 (length out) ≡ true = le-leb 0 (length out) (omega arith) in
    record { answer = simp (e, z); bytes = simp (e, z) (sym (placed-none out 0)) }

pub decoded_wrong : (s out : List ℕ) → is_dash s ≡ false → is_pairs s ≡ false → Decoded s out None out
unfolding hex_of fitting
decoded_wrong s out e f = record { answer = simp (e, f); bytes = simp (e, f) }

module _ (s out : List ℕ) (e : is_dash s ≡ false) (f : is_pairs s ≡ true) where
  size : length (pairs s) ≡ length s / 2
  size = length_pairs s (length s / 2) (halves s f)

  pub decoded_long : length out < length s / 2 → Decoded s out None out
  unfolding hex_of fitting
  decoded_long h =
      let l : leb (length (pairs s)) (length out) ≡ false = lt-leb (length (pairs s)) (length out) (omega (arith, size)) in
      record { answer = simp (e, f, l); bytes = simp (e, f, l) }

  pub decoded_pairs : (out' : List ℕ) → length s / 2 ≤ length out → out' ≡ placed out 0 (pairs s) → Decoded s out (Some (length s / 2)) out'
  unfolding hex_of fitting
  decoded_pairs out' h g =
      let l : leb (length (pairs s)) (length out) ≡ true = le-leb (length (pairs s)) (length out) (omega (arith, size)) in
      record { answer = simp (e, f, l) (ap Some (sym size)); bytes = simp (e, f, l) g }
