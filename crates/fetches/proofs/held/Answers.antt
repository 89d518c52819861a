use mathlib.Core.Path.{◌∙◌}
use Rattle.fetches.proofs.Finds.{no_part, held_by}
use Rattle.fetches.proofs.held.Goals as goal

-- kept, though the check finds them: with them the edits held_has_no_bytes and held_where_none_is_held are refused by what is handed out, and not by a
-- search that gave up
pub returns-in-Held : goal.returns-in-Held
returns-in-Held c = rw c.part.ensures (held_by c.args.number c.args.s c.args.outbound.now c.in-Held.ensures.answer)

pub returns-in_default : goal.returns-in_default
returns-in_default c = λ l d q lq. no_part c.find.result c.args.outbound.now c.in_default.not-Held ∙ held_by c.args.number c.args.s c.args.outbound.now c.find.ensures.answer l d q lq
