use native.Mathlib.Omega.{arith}
use Rattle.link_draining.proofs.Ends.{droppable, finishes_in}
use Rattle.link_draining.proofs.finish.Goals as goal

pub drop_front-requires : goal.drop_front-requires
drop_front-requires c = droppable c.advance.ensures c.requires.0

pub returns : goal.returns
returns c = finishes_in c.advance.ensures (omega arith) (omega arith) c.drop_front.ensures
