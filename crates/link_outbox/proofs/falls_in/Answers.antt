use mathlib.Core.Path.{sym}
use native.Mathlib.Omega.{arith}
use Prim.Native.Nat.{◌-◌}
use Rattle.parts.specs.Parts.{at}
use Rattle.link_outbox.proofs.Sounds.{steps_rise}
use Rattle.link_outbox.proofs.falls_in.Goals as goal

pub returns-then-steps_of-count : goal.returns-then-steps_of-count
returns-then-steps_of-count c =
    λ b. sym (steps_rise c.args.halves.now b (at c.args.halves.now 0) c.args.count c.requires.1 (c.steps_of.ensures c.if-steps_of-count.true) (c.args.count - 1) 1 (omega arith) (omega arith))
