use native.Mathlib.Omega.{arith}
use Rattle.std.proofs.Common.{◌≡◌, ◌-◌}
use Rattle.text.proofs.Fields.{word_is}
use Rattle.text.proofs.has_word.Goals as goal

pub returns : goal.returns
returns c = let e : c.find-e.result - 0 ≡ c.find-e.result = omega arith in word_is _ _ _ c.find-e.ensures (rw e c.same_bytes.ensures)
