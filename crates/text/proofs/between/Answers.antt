use mathlib.Core.Path.{ap, refl, ◌∙◌}
use Rattle.text.proofs.Fields.{between_got}
use Rattle.text.proofs.between.Goals as goal

pub returns : goal.returns
returns g c = ap (λ x. x.now) c.unwrap_or.ensures ∙ between_got _ _ _ c.get.result _ refl c.get.ensures.lookup
