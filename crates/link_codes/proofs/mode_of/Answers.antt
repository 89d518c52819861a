use mathlib.Core.Path.{ap, ◌∙◌}
use Rattle.rules.specs.Receiving.{mode_of}
use Rattle.link_codes.proofs.Enums.{mode_read}
use Rattle.link_codes.proofs.mode_of.Goals as goal

pub returns : goal.returns
returns c = c.unwrap_or.ensures ∙ mode_read _ c.try_from.result c.try_from.ensures ∙ ap mode_of c.from.ensures
