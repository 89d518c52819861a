use Prim.Native.Nat.{◌<◌, ◌^◌}
use native.Mathlib.Omega.{arith}
use mathlib.Core.Path.{◌∙◌}
use lib.ListN.{take}
use Rattle.std.specs.List.{sum}
use Rattle.std.proofs.lemmas.Iterator.{YieldsList-from_slice}
use Rattle.std.proofs.lemmas.Iterator.Consumers.{sum_from_yields_List, fits_from_yields_list}
use Rattle.rules.specs.Lists.{itself}
use Rattle.stores.proofs.Words.{total-sum}
use Rattle.starts.proofs.body_bytes.Goals as goal

pub sum-sum-requires-clause-fits : goal.sum-sum-requires-clause-fits
sum-sum-requires-clause-fits c =
    let fits : sum (take c.args.count c.args.lengths.now) < 2 ^ 64 = omega (arith, c.requires.1, total-sum itself (take c.args.count c.args.lengths.now)) in
    fits_from_yields_list c.iter.result _ (YieldsList-from_slice (take c.args.count c.args.lengths.now) (cc)) fits

pub returns : goal.returns
returns c =
    sum_from_yields_List c.iter.result _ c.sum-sum.ensures.ran (YieldsList-from_slice (take c.args.count c.args.lengths.now) (cc))
    ∙ total-sum itself (take c.args.count c.args.lengths.now)
