use Prim.Native.Nat.{◌≤◌}
use native.Mathlib.Omega.{arith}
use mathlib.Core.Path.{refl, ◌∙◌}
use lib.Dec.{leb}
use lib.ListN.{length}
use Rattle.std.proofs.Common.{rules, tests}
use Rattle.std.proofs.lemmas.Iterator.{YieldsList-from_slice}
use Rattle.std.proofs.lemmas.Iterator.Consumers.{count_from_yields_List}
use Rattle.std.proofs.lemmas.Iterator.Search.{YieldsList-from_take_while}
use Rattle.std.proofs.lemmas.List.Folds.{length-prefix_len}
use Rattle.stores.proofs.Words.{front_prefix}
use Rattle.link_queue.proofs.Finds.{run, leads_run}
use Rattle.link_queue.proofs.up_to.Goals as goal

pub returns : goal.returns
returns c =
    let n = c.args.number in
    let w = c.args.words.now in
    let room : 272 ≤ length w = omega arith in
    let numbers = run n w c.requires room in
    leads_run n w c.requires room c.count.result
    (count_from_yields_List c.take_while.result _ c.count.ensures.ran
    (YieldsList-from_take_while _ (λ x. leb x n) (YieldsList-from_slice numbers (cc)) c.take_while.ensures.closure c.take_while.ensures.done (λ x b q k. search (rules, tests)))
    ∙ length-prefix_len (λ x. leb x n) numbers
    ∙ front_prefix _ _ (λ x. refl) numbers)
