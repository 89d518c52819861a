use mathlib.Core.List.{List}
use mathlib.Core.Path.{sym, ap, ◌∙◌}
use Prim.Native.Nat.{ℕ}
use lib.Dec.{leb}
use lib.ListN.{take}
use lib.Seq.{take-length}
use Rattle.rules.specs.Lists.{total, itself}
use Rattle.starts.proofs.Slices.{counted_more, counted_out, counted_all}
use Rattle.starts.proofs.fits.Goals as goal

pub returns-then-left-k : goal.returns-then-left-k
returns-then-left-k c =
    sym (counted_out c.loop-k.invariant c.loop-k-test.true c.if-left-k.true) ∙ ap (λ (l : List ℕ). leb (total itself l) c.args.limit) (take-length (take c.args.count c.args.lengths.now))

pub loop-k-preserved : goal.loop-k-preserved
loop-k-preserved c = counted_more c.loop-k.invariant c.loop-k-test.true c.if-left-k.false

pub returns : goal.returns
returns c =
    sym (counted_all c.loop-k.invariant c.loop-k-test.false) ∙ ap (λ (l : List ℕ). leb (total itself l) c.args.limit) (take-length (take c.args.count c.args.lengths.now))
