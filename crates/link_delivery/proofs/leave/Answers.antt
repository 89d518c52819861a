use mathlib.Core.Path.{refl}
use Rattle.link_delivery.proofs.leave.Goals as goal

-- kept, though the check finds it: with it the edit acks_not_counted is refused by what is stored, and not by a search that gave up
pub returns : goal.returns
returns c = record { end = refl; words = refl }
