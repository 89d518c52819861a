use mathlib.Core.Path.{ap, ◌∙◌}
use mathlib.Core.Bool.{not}
use Rattle.link_queue.proofs.Tops.{not_queued}
use Rattle.link_queue.proofs.holds.Goals as goal

pub returns-else-not-above : goal.returns-else-not-above
returns-else-not-above c = λ h b o.
    ap not c.if-not-above.false ∙ not_queued c.requires.few (c.above.ensures c.if-not-above.false) h b o
