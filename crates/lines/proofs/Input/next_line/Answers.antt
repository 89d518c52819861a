use mathlib.Core.Path.{sym}
use native.Mathlib.Omega.{arith}
use Rattle.std.proofs.lemmas.List.{length-take-le}
use Rattle.lines.proofs.Input.next_line.Goals as goal

-- kept, though the check finds it: with it the edit line_above_its_buffer is refused by the line's size, and not by a search that gave up
pub slice_bounds-result-end : goal.slice_bounds-result-end
slice_bounds-result-end c = sym (length-take-le _ _ (omega arith))
