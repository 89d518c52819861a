use mathlib.Core.Path.{sym}
use Rattle.link_restores.proofs.Handoffs.{body-told}
use Rattle.link_handoffs.proofs.same_body.Goals as goal

pub returns : goal.returns
returns c = sym (body-told c.args.body.now c.handoff_body.ensures c.same_bytes.ensures)
