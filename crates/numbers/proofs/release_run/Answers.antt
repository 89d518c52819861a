use mathlib.Core.Path.{◌∙◌}
use Rattle.stores.proofs.Words.{byte-step}
use Rattle.numbers.proofs.Passes.{releasing_none, releasing_more, releasing_all}
use Rattle.numbers.proofs.release_run.Goals as goal

pub loop-i-init : goal.loop-i-init
loop-i-init c = releasing_none _ _ _ _ c.requires

pub loop-i-preserved : goal.loop-i-preserved
loop-i-preserved c = releasing_more c.loop-i.invariant c.loop-i-test.true (c.from-count.ensures ∙ byte-step _) c.list_one-events.auto.list c.list_one-events.ensures

pub returns : goal.returns
returns c = releasing_all c.loop-i.invariant c.loop-i-test.false
