use mathlib.Core.Path.{sym, ap}
use Rattle.session.specs.Promise.{terms_in_session}
use Rattle.session.proofs.channel_terms.Goals as goal

-- kept, though the check finds it: with it the edit no_terms_while_waiting is refused by what is answered, and not by a search that gave up
pub returns-in-Waiting : goal.returns-in-Waiting
returns-in-Waiting c = λ o q. sym (ap terms_in_session c.in-Waiting.is)
