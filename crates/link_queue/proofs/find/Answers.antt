use Prim.Native.Nat.{◌≤◌, ◌<◌, ◌^◌}
use native.Mathlib.Omega.{arith}
use mathlib.Core.Path.{◌≡◌, ap, ◌∙◌}
use lib.Dec.{ltb}
use lib.ListN.{length}
use Rattle.std.specs.List.{sum_by}
use Rattle.std.proofs.Common.{rules, tests}
use Rattle.std.proofs.lemmas.Iterator.{YieldsList-from_slice, YieldsList-from_map}
use Rattle.std.proofs.lemmas.Iterator.Consumers.{sum_by_from_yields_List, fits_by_from_yields_list}
use Rattle.stores.proofs.Words.{total-sum}
use Rattle.link_queue.proofs.Finds.{run, hit, hits_few, hits_any}
use Rattle.link_queue.proofs.find.Goals as goal

pub sum-found-requires-clause-fits : goal.sum-found-requires-clause-fits
sum-found-requires-clause-fits c =
    let n = c.args.number in
    let w = c.args.words.now in
    let room : 272 ≤ length w = omega arith in
    let numbers = run n w c.requires room in
    let one = hit n w c.requires room in
    let lent : c.iter.result.rest.now ≡ numbers = c.iter.ensures.rest in
    let fits : sum_by one numbers < 2 ^ 64 = omega (arith, hits_few n w c.requires room, total-sum one numbers) in
    fits_by_from_yields_list one numbers c.map.result _
    (YieldsList-from_map _ one (YieldsList-from_slice numbers (cc (lent))) c.map.ensures.closure (λ x r q k. search (rules, tests))) fits

pub returns : goal.returns
returns c = λ h b o.
    let n = c.args.number in
    let w = c.args.words.now in
    let room : 272 ≤ length w = omega arith in
    let numbers = run n w c.requires room in
    let one = hit n w c.requires room in
    let lent : c.iter.result.rest.now ≡ numbers = c.iter.ensures.rest in
    ap (ltb 0)
    (sum_by_from_yields_List one numbers c.map.result _ c.sum-found.ensures.ran
    (YieldsList-from_map _ one (YieldsList-from_slice numbers (cc (lent))) c.map.ensures.closure (λ x r q k. search (rules, tests)))
    ∙ total-sum one numbers)
    ∙ hits_any n w c.requires room h b o
