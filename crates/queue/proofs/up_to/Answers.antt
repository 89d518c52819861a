use Prim.Native.Nat.{◌≤◌}
use native.Mathlib.Omega.{arith}
use mathlib.Core.Path.{◌≡◌, refl, ◌∙◌}
use lib.ListN.{length-take}
use Rattle.std.proofs.Common.{rules, tests}
use Rattle.std.proofs.lemmas.Iterator.{YieldsList-from_slice}
use Rattle.std.proofs.lemmas.Iterator.Consumers.{count_from_yields_List}
use Rattle.std.proofs.lemmas.Iterator.Search.{YieldsList-from_take_while}
use Rattle.std.proofs.lemmas.List.Folds.{length-prefix_len}
use Rattle.stores.specs.Fronts.{front}
use Rattle.stores.proofs.Seats.{front-within}
use Rattle.stores.proofs.Words.{front_prefix}
use Rattle.queue.specs.View.{used_q}
use Rattle.queue.proofs.View.{queued_up_to, leads}
use Rattle.queue.proofs.up_to.Goals as goal

pub returns : goal.returns
returns c =
    let counted : c.count.result ≡ front (queued_up_to c.args.number) (used_q c.args.q) =
    count_from_yields_List c.take_while.result _ c.count.ensures.ran
    (YieldsList-from_take_while _ (queued_up_to c.args.number) (YieldsList-from_slice (used_q c.args.q) (cc)) c.take_while.ensures.closure c.take_while.ensures.done (λ x b q k. search (rules, tests)))
    ∙ length-prefix_len (queued_up_to c.args.number) (used_q c.args.q)
    ∙ front_prefix _ _ (λ u. refl) _ in
    let within : c.count.result ≤ c.args.q.count = omega (arith, simp length-take at (front-within (queued_up_to c.args.number) (used_q c.args.q))) in
    leads _ _ _ within counted
