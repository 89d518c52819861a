-- The stores after a call. Assumes nothing.
use mathlib.Core.Path.{◌≡◌, ap, ◌∙◌}
use mathlib.Core.List.{◌++◌}
use Prim.Native.Nat.{ℕ, ◌-◌, max}
use native.Mathlib.Omega.{arith}
use lib.ListN.{length, take, drop, replicate, take-append-drop}
use Rattle.rules.specs.Lists.{Bytes}
use Rattle.rules.specs.Buffers.{repacked}

-- a store that is left alone, its bodies where they were
pub repacked-same : (n : ℕ) (b s : Bytes) → b ≡ take n s → length b ≡ n → repacked n b s ≡ s
unfolding repacked
repacked-same n b s e h =
    let z : n - length b ≡ 0 = omega arith in
    let m : max n (length b) ≡ n = omega arith in
    ap (λ (k : ℕ). b ++ (replicate k 0 ++ drop (max n (length b)) s)) z
    ∙ ap (λ (k : ℕ). b ++ drop k s) m
    ∙ ap (λ (x : Bytes). x ++ drop n s) e
    ∙ take-append-drop n s
