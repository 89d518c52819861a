use mathlib.Core.Path.{ap, ◌∙◌}
use Rattle.link_c.specs.Forms.{terms_of}
use Rattle.link_c.proofs.questions.link_channel_terms.Goals as goal

pub returns : goal.returns
returns c = λ o q. c.terms_of.ensures ∙ ap terms_of (c.channel_terms-t.ensures o q)
