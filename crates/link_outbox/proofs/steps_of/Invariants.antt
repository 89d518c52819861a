use mathlib.Core.Path.{◌≡◌}
use Prim.Native.Nat.{◌+◌, ◌≤◌}
use Rattle.link_outbox.specs.Tests.{Steps}
use Rattle.link_outbox.proofs.steps_of.Given as goal

abbrev pub invariant-loop-i : goal.invariant-loop-i
invariant-loop-i l = (l.i ≤ l.count) × (l.count ≤ 256) × (l.first + l.count ≤ 4294967296) × (l.sum ≤ l.i) × (l.sum ≡ l.i → Steps l.halves l.first l.i)
