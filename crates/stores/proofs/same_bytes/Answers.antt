use mathlib.Core.Path.{◌∙◌}
use Rattle.stores.proofs.Matches.{pointwise-same}
use Rattle.stores.proofs.same_bytes.Goals as goal

pub returns : goal.returns
returns c = c.eq.ensures ∙ pointwise-same _ _
