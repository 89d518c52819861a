use mathlib.Core.Path.{refl, ◌∙◌}
use borrow.Author.Tests.{tests}
use Rattle.std.proofs.Common.{rules}
use Rattle.std.proofs.lemmas.Iterator.{YieldsList-from_slice}
use Rattle.std.proofs.lemmas.Iterator.Consumers.{count_from_yields_List}
use Rattle.std.proofs.lemmas.Iterator.Search.{YieldsList-from_take_while}
use Rattle.std.proofs.lemmas.List.Folds.{length-prefix_len}
use Rattle.stores.proofs.Words.{front_prefix}
use Rattle.numbers.specs.Seats.{in_use, under, seat_of}
use Rattle.numbers.proofs.seat.Goals as goal

pub returns : goal.returns
unfolding seat_of
returns c =
    count_from_yields_List c.take_while.result _ c.count.ensures.ran
    (YieldsList-from_take_while _ (under c.args.n) (YieldsList-from_slice (in_use c.args.v) (cc)) c.take_while.ensures.closure c.take_while.ensures.done (λ x b q k. search (rules, tests)))
    ∙ length-prefix_len (under c.args.n) (in_use c.args.v)
    ∙ front_prefix _ _ (λ x. refl) _
