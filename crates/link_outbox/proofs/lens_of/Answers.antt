use Prim.Native.Nat.{◌≤◌, ◌<◌, ◌^◌}
use native.Mathlib.Omega.{arith}
use mathlib.Core.Path.{◌∙◌, sym}
use lib.ListN.{length}
use Rattle.std.specs.List.{sum_by}
use Rattle.std.proofs.Common.{rules, tests}
use Rattle.std.proofs.lemmas.Iterator.{YieldsList-from_slice, YieldsList-from_map}
use Rattle.std.proofs.lemmas.Iterator.Consumers.{sum_by_from_yields_List, fits_by_from_yields_list}
use Rattle.rules.specs.Lists.{itself}
use Rattle.stores.proofs.Words.{total-sum}
use Rattle.link_outbox.proofs.Sounds.{lens, run_lens, lens_most, take-total}
use Rattle.parts.specs.Parts.{unacked_at}
use Rattle.link_outbox.proofs.lens_of.Goals as goal

pub sum-requires-clause-fits : goal.sum-requires-clause-fits
sum-requires-clause-fits c =
    let h = c.args.halves.now in
    let n = c.args.count in
    let room : 512 ≤ length h = omega arith in
    let ls = lens h n c.requires room in
    let fits : sum_by itself ls < 2 ^ 64 = omega (arith, total-sum itself ls, lens_most h n c.requires room c.fits-halves) in
    fits_by_from_yields_list itself ls c.map.result _
    (YieldsList-from_map _ itself (YieldsList-from_slice ls (cc)) c.map.ensures.closure (λ x r q k. search (rules, tests))) fits

pub returns : goal.returns
returns c = λ b.
    let h = c.args.halves.now in
    let n = c.args.count in
    let room : 512 ≤ length h = omega arith in
    let ls = lens h n c.requires room in
    sum_by_from_yields_List itself ls c.map.result _ c.sum.ensures.ran
    (YieldsList-from_map _ itself (YieldsList-from_slice ls (cc)) c.map.ensures.closure (λ x r q k. search (rules, tests)))
    ∙ total-sum itself ls
    ∙ run_lens h n c.requires room b
    ∙ sym (take-total (unacked_at h b) n c.requires)
