use mathlib.Core.Path.{refl}
use Rattle.acks.proofs.Steps.{failure-listed}
use Rattle.acks.proofs.out_of_range.Goals as goal

pub returns : goal.returns
returns c = record { leaves = c.broken-r.ensures; answer = refl; listed = failure-listed (rw c.from.ensures at c.emit.ensures) }
