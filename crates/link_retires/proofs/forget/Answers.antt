use native.Mathlib.Omega.{arith}
use Rattle.link_retires.proofs.Retires.{forgets_in}
use Rattle.link_retires.proofs.forget.Goals as goal

pub returns : goal.returns
returns c = record { forgets = λ t. forgets_in c.args.words.now c.args.halves.now c.args.bytes.now c.args.outbound.now _ _ c.discard.ensures (omega arith) (omega arith) (omega arith) t }
