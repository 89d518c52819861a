-- What a number that was read as a code is. Assumes nothing.
use native.Mathlib.Omega.{arith}
use Rattle.std.specs.Prelude.{ℕ, ◌≡◌, ◌≤◌}
use Rattle.std.proofs.Common.{ap, ◌∙◌}
use Rattle.rules.specs.declared.FrameKind.{FrameKind}
use Rattle.rules.specs.declared.FrameKind.TheVariants.{Data, Ack}
use Rattle.rules.specs.Codes.{frame_kind_number}

pub code-small : {n : ℕ} (what : FrameKind) → n ≡ frame_kind_number what → n ≤ 1
code-small Data e = omega (arith, e)
code-small Ack e = omega (arith, e)

pub code-data : {n : ℕ} (what : FrameKind) → n ≡ frame_kind_number what → what ≡ Data → n ≡ 0
code-data what e k = e ∙ ap frame_kind_number k

pub code-ack : {n : ℕ} (what : FrameKind) → n ≡ frame_kind_number what → what ≡ Ack → n ≡ 0 → ⊥
code-ack {n} what e k z = let one : n ≡ 1 = e ∙ ap frame_kind_number k in omega (arith, z, one)
