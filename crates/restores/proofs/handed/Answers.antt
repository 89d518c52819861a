use Rattle.restores.specs.Restored.{lent_handoff}
use Rattle.restores.proofs.Handoffs.{handed-is}
use Rattle.restores.proofs.handed.Goals as goal

pub returns : goal.returns
returns c = rw c.in-Some.is (handed-is (lent_handoff c.in-Some.h) (rw c.in-Some.is at c.requires) c.copy_in.new.store c.copy_in.ensures)
