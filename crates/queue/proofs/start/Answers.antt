use Prim.Native.Nat.{◌<◌, ◌^◌}
use native.Mathlib.Omega.{arith}
use mathlib.Core.Path.{sym, ◌∙◌}
use lib.ListN.{take}
use Rattle.std.specs.List.{sum_by}
use Rattle.std.proofs.Common.{rules, tests}
use Rattle.std.proofs.lemmas.Iterator.{YieldsList-from_slice, YieldsList-from_map}
use Rattle.std.proofs.lemmas.Iterator.Consumers.{sum_by_from_yields_List, fits_by_from_yields_list}
use Rattle.stores.proofs.Words.{total-sum}
use Rattle.queue.specs.View.{len_q}
use Rattle.queue.proofs.Changes.{start-within, start_plain}
use Rattle.queue.proofs.start.Goals as goal

pub sum-requires-clause-fits : goal.sum-requires-clause-fits
sum-requires-clause-fits c =
    let fits : sum_by len_q (take c.args.k c.args.q.records) < 2 ^ 64 =
    omega (arith, c.requires.2, total-sum len_q (take c.args.k c.args.q.records), start-within c.args.q c.args.k, start_plain c.args.q c.args.k c.requires.0) in
    fits_by_from_yields_list len_q (take c.args.k c.args.q.records) c.map.result _
    (YieldsList-from_map _ len_q (YieldsList-from_slice (take c.args.k c.args.q.records) (cc)) c.map.ensures.closure (λ x r q k. search (rules, tests))) fits

pub returns : goal.returns
returns c =
    sum_by_from_yields_List len_q (take c.args.k c.args.q.records) c.map.result _ c.sum.ensures.ran
    (YieldsList-from_map _ len_q (YieldsList-from_slice (take c.args.k c.args.q.records) (cc)) c.map.ensures.closure (λ x r q k. search (rules, tests)))
    ∙ total-sum len_q (take c.args.k c.args.q.records)
    ∙ sym (start_plain c.args.q c.args.k c.requires.0)
