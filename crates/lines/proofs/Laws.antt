-- The laws of numbers put into a buffer. Assumes nothing.
use mathlib.Core.Path.{◌≡◌, refl, subst}
use mathlib.Core.Bool.{Bool, true, false}
use mathlib.Core.List.{List}
use Prim.Native.Nat.{ℕ, ◌-◌, ◌^◌, ◌≤◌, ◌<◌}
use native.Mathlib.Omega.{arith}
use native.Mathlib.Nat.{pow-le-pow_right}
use lib.Dec.{leb, lit<}
use lib.ListN.{length, take}
use borrow.Author.Tests.{leb-true, leb-false}
use Rattle.io.specs.Counts.{IsPrefixLen}
use Rattle.io.specs.Digits.{last_digits, IsDigitCount}
use Rattle.text.specs.Output.{Put}
use Rattle.lines.specs.Numerals.{Decimals, hex16_text}

-- a number below a power of the base has no more digits than the power, unless more are asked for
fewest_most : (b least n k m : ℕ) → IsDigitCount b least n k → least ≤ m → n < b ^ m → 0 < b → k ≤ m
fewest_most b least n k m f l h p = go (leb k m) refl
  where
    go : (t : Bool) → leb k m ≡ t → k ≤ m
    go true e = leb-true k m e
    go false e =
        let more : m < k = leb-false k m e in
        let low : b ^ m ≤ b ^ (k - 1) = pow-le-pow_right p (omega arith) in
        let high : b ^ (k - 1) ≤ n = f.2 (omega arith) in
        absurd (omega arith)

pub decimal_short : (v k : ℕ) → v ≤ 18446744073709551615 → IsDigitCount 10 1 v k → k ≤ 20
decimal_short v k h f =
    let l : 18446744073709551615 < 10 ^ 20 = lit< tt in
    fewest_most 10 1 v k 20 f (omega arith) (omega arith) (omega arith)

pub hex16_whole : (v k : ℕ) → v ≤ 18446744073709551615 → IsDigitCount 16 16 v k → k ≡ 16
hex16_whole v k h f =
    let l : 18446744073709551615 < 16 ^ 16 = lit< tt in
    let m : k ≤ 16 = fewest_most 16 16 v k 16 f (omega arith) (omega arith) (omega arith) in
    omega (arith, f.0)

-- digits that were written into text are put into out
module _ {out out' : List ℕ} {n k r : ℕ} (v : ℕ) (h : v ≤ 18446744073709551615) (text : List ℕ) (c : IsPrefixLen k text) where
  pub decimals : IsDigitCount 10 1 v k → take k text ≡ last_digits 10 k v → Put out n (take k text) r out' → Decimals out n v r out'
  decimals f e p =
      let d : k ≡ r - n = omega (arith, p.next, c.1) in
      record {
        short = omega (arith, d, p.next, c.1, decimal_short v k h f);
        fewest = subst (λ (j : ℕ). IsDigitCount 10 1 v j) d f;
        put = subst (λ (j : ℕ). Put out n (last_digits 10 j v) r out') d (subst (λ (l : List ℕ). Put out n l r out') e p);
      }

  pub hex_digits : IsDigitCount 16 16 v k → take k text ≡ last_digits 16 k v → Put out n (take k text) r out' → Put out n (hex16_text v) r out'
  unfolding hex16_text
  hex_digits f e p = subst (λ (j : ℕ). Put out n (last_digits 16 j v) r out') (hex16_whole v k h f) (subst (λ (l : List ℕ). Put out n l r out') e p)

pub length_hex16 : (v : ℕ) → length (hex16_text v) ≡ 16
unfolding hex16_text
length_hex16 v = refl
