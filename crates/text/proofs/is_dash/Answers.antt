use mathlib.Core.Path.{◌∙◌}
use Rattle.text.proofs.Pairs.{dash_same}
use Rattle.text.proofs.is_dash.Goals as goal

pub returns : goal.returns
returns c = c.same_bytes.ensures ∙ dash_same _
