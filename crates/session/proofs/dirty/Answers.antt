use mathlib.Core.Path.{refl}
use Rattle.session.proofs.dirty.Goals as goal

-- kept, though the check finds it: with it the edit dirty_when_persisted is refused by what is answered, and not by a search that gave up
pub returns : goal.returns
returns c = λ o q. refl
