use mathlib.Core.Path.{refl}
use Rattle.session.proofs.unchanged.Goals as goal

-- kept, though the check finds them: with them the edits told_as_refused and listed_nothing are refused by what is handed back, and not by a search that
-- gave up
pub returns-clause-answer : goal.returns-clause-answer
returns-clause-answer c = refl

pub returns-clause-events : goal.returns-clause-events
returns-clause-events c = refl
