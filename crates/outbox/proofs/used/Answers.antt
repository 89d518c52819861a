use Prim.Native.Nat.{◌<◌, ◌^◌}
use native.Mathlib.Omega.{arith}
use mathlib.Core.Path.{◌∙◌}
use Rattle.std.specs.List.{sum_by}
use Rattle.std.proofs.Common.{rules, tests}
use Rattle.std.proofs.lemmas.Iterator.{YieldsList-from_slice, YieldsList-from_map}
use Rattle.std.proofs.lemmas.Iterator.Consumers.{sum_by_from_yields_List, fits_by_from_yields_list}
use Rattle.stores.proofs.Words.{total-sum}
use Rattle.outbox.specs.View.{len_u, used_u}
use Rattle.outbox.proofs.used.Goals as goal

pub sum-requires-clause-fits : goal.sum-requires-clause-fits
sum-requires-clause-fits c =
    let fits : sum_by len_u (used_u c.args.o) < 2 ^ 64 = omega (arith, c.requires.1, total-sum len_u (used_u c.args.o)) in
    fits_by_from_yields_list len_u (used_u c.args.o) c.map.result _
    (YieldsList-from_map _ len_u (YieldsList-from_slice (used_u c.args.o) (cc)) c.map.ensures.closure (λ x r q k. search (rules, tests))) fits

pub returns : goal.returns
returns c =
    sum_by_from_yields_List len_u (used_u c.args.o) c.map.result _ c.sum.ensures.ran
    (YieldsList-from_map _ len_u (YieldsList-from_slice (used_u c.args.o) (cc)) c.map.ensures.closure (λ x r q k. search (rules, tests)))
    ∙ total-sum len_u (used_u c.args.o)
