use native.Mathlib.Omega.{arith}
use mathlib.Core.Path.{sym, ◌∙◌}
use Rattle.rules.specs.Lists.{itself}
use Rattle.stores.proofs.Scans.{rises-on, rises_not, rises-none}
use Rattle.numbers.proofs.run_rises.Goals as goal

pub returns-then-x-top : goal.returns-then-x-top
returns-then-x-top c = sym (rises_not itself _ c.loop-x.x-index _ 0 c.loop-x-test.true (omega arith) c.loop-x.top c.if-x-top.true) ∙ c.loop-x.invariant

pub loop-x-preserved : goal.loop-x-preserved
loop-x-preserved c = sym (rises-on itself _ c.loop-x.x-index _ 0 c.loop-x-test.true (omega arith) c.loop-x.top c.if-x-top.false) ∙ c.loop-x.invariant

pub returns : goal.returns
returns c = sym (rises-none itself _ _ _ c.loop-x.top c.loop-x-test.false) ∙ c.loop-x.invariant
