use Prim.Native.Nat.{◌≤◌, ◌<◌, ◌^◌}
use native.Mathlib.Omega.{arith}
use mathlib.Core.Path.{◌∙◌}
use mathlib.Core.List.{[]}
use lib.ListN.{length}
use Rattle.std.specs.List.{sum}
use Rattle.std.proofs.lemmas.Iterator.{YieldsList-from_slice}
use Rattle.std.proofs.lemmas.Iterator.Consumers.{sum_from_yields_List, fits_from_yields_list}
use Rattle.rules.specs.Lists.{itself}
use Rattle.stores.proofs.Words.{total-sum}
use Rattle.link_outbox.proofs.Sounds.{lens, run_lens}
use Rattle.link_outbox.proofs.used.Goals as goal

pub sum-sum-requires-clause-fits : goal.sum-sum-requires-clause-fits
sum-sum-requires-clause-fits c =
    let h = c.args.halves.now in
    let n = c.args.count in
    let room : 512 ≤ length h = omega arith in
    let ls = lens h n c.requires.few room in
    let fits : sum ls < 2 ^ 32 = omega (arith, c.requires.small [], total-sum itself ls, run_lens h n c.requires.few room []) in
    fits_from_yields_list c.iter.result _ (YieldsList-from_slice ls (cc)) fits

pub returns : goal.returns
returns c = λ b.
    let h = c.args.halves.now in
    let n = c.args.count in
    let room : 512 ≤ length h = omega arith in
    let ls = lens h n c.requires.few room in
    sum_from_yields_List c.iter.result _ c.sum-sum.ensures.ran (YieldsList-from_slice ls (cc)) ∙ total-sum itself ls ∙ run_lens h n c.requires.few room b
