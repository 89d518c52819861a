use Prim.Native.Nat.{◌+◌, ◌-◌, ◌<◌, ◌^◌}
use native.Mathlib.Omega.{arith}
use mathlib.Core.Path.{◌∙◌}
use lib.ListN.{take, drop}
use Rattle.std.specs.List.{sum}
use Rattle.std.proofs.lemmas.Iterator.{YieldsList-from_slice}
use Rattle.std.proofs.lemmas.Iterator.Consumers.{sum_from_yields_List, fits_from_yields_list}
use Rattle.rules.specs.Lists.{itself}
use Rattle.stores.proofs.Words.{total-sum}
use Rattle.link_queue.proofs.Sums.{run-bodies}
use Rattle.link_queue.proofs.start.Goals as goal

pub sum-sum-requires-clause-fits : goal.sum-sum-requires-clause-fits
sum-sum-requires-clause-fits c =
    let h = c.args.halves.now in
    let k = c.args.k in
    let fits : sum (take (512 + k - 512) (drop 512 h)) < 2 ^ 32 =
    omega (arith, c.requires.few, c.requires.small, total-sum itself (take (512 + k - 512) (drop 512 h)), run-bodies h k (omega arith)) in
    fits_from_yields_list c.iter.result _ (YieldsList-from_slice (take (512 + k - 512) (drop 512 h)) (cc)) fits

pub returns : goal.returns
returns c =
    let h = c.args.halves.now in
    let k = c.args.k in
    sum_from_yields_List c.iter.result _ c.sum-sum.ensures.ran (YieldsList-from_slice (take (512 + k - 512) (drop 512 h)) (cc))
    ∙ total-sum itself (take (512 + k - 512) (drop 512 h))
    ∙ run-bodies h k (omega arith)
