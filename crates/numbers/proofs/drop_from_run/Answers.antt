use mathlib.Core.Path.{ap, ◌∙◌}
use mathlib.Core.Bool.{Bool, not}
use native.Mathlib.Omega.{arith}
use Rattle.stores.proofs.Sifts.{sifted_none, sifted_more}
use Rattle.stores.proofs.Words.{byte-step, eqb_flip}
use Rattle.numbers.specs.Seats.{step}
use Rattle.numbers.proofs.drop_from_run.Goals as goal

pub loop-i-init : goal.loop-i-init
loop-i-init c = sifted_none _ _ _ (omega arith)

pub loop-i-preserved : goal.loop-i-preserved
loop-i-preserved c =
    sifted_more c.loop-i.invariant 0 c.loop-i-test.true _ (c.from-k.ensures ∙ byte-step _ ∙ ap (λ (t : Bool). step (not t)) (eqb_flip _ c.args.n))
