use native.Mathlib.Omega.{arith}
use Rattle.restores.specs.Restored.{lent_handoff}
use Rattle.link_restores.proofs.Handoffs.{hands_none, hands_at}
use Rattle.link_restores.proofs.hand.Goals as goal

pub returns-in_default : goal.returns-in_default
returns-in_default c = rw c.in_default.is (hands_none _ _ (omega arith) (omega arith))

pub returns : goal.returns
returns c = rw c.in-Some.is (hands_at c.args.words.now c.args.bytes.now (omega arith) (omega arith) (lent_handoff c.in-Some.given) (rw c.in-Some.is at c.requires) _ _ c.flag_byte-sent.ensures c.flag_byte-acknowledged.ensures _ c.copy_in.ensures)
