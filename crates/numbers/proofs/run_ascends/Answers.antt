use mathlib.Core.Path.{sym, ap, ◌∙◌}
use native.Mathlib.Omega.{arith}
use Rattle.std.proofs.lemmas.Slice.{first_rest}
use Rattle.rules.specs.Sound.{ascending}
use Rattle.numbers.proofs.run_ascends.Goals as goal

-- kept, though the check finds it: with it the edit rest_compared_with_0 is refused by what the rest is compared with, and not by a search that gave up
pub returns-in-len1-up : goal.returns-in-len1-up
returns-in-len1-up c = c.run_rises.ensures ∙ sym (ap ascending (first_rest c.args.run.now 0 (omega arith)))
