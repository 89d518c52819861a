use mathlib.Core.Path.{refl, sym, ◌∙◌}
use Rattle.std.proofs.Common.{rules, tests}
use Rattle.std.proofs.lemmas.Iterator.{YieldsList-from_slice}
use Rattle.std.proofs.lemmas.Iterator.Search.{any_from_yields_List}
use Rattle.stores.proofs.Words.{any-list}
use Rattle.queue.specs.View.{used_q}
use Rattle.queue.proofs.View.{is-queued, any-frame}
use Rattle.queue.proofs.find.Goals as goal

pub returns : goal.returns
returns c = λ o.
    any_from_yields_List (is-queued c.args.number) _ _ _ c.any.ensures.ran (YieldsList-from_slice (used_q c.args.q) cc) (λ x b q k. search (rules, tests))
    ∙ any-list _ _ (λ u. refl) _
    ∙ sym (any-frame c.args.number c.args.q o)
