use mathlib.Core.Path.{sym, ◌∙◌}
use Rattle.link_codes.proofs.Bodies.{held-body}
use Rattle.link_codes.proofs.handoff_body.Goals as goal

pub returns : goal.returns
returns c = c.part.ensures ∙ sym (held-body _ c.args.bytes.now c.requires)
