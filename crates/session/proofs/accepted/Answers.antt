use mathlib.Core.Bool.{true}
use mathlib.Core.Logic.{◌⊎◌, inl, inr}
use mathlib.Core.Path.{◌≡◌, sym, ap}
use Rattle.rules.specs.declared.Setup.{Setup}
use Rattle.rules.specs.declared.Setup.TheVariants.{Waiting, Started}
use Rattle.rules.specs.declared.Terms.{Terms}
use Rattle.rules.specs.Queries.{accepts_in}
use Rattle.session.proofs.accepted.Goals as goal

accepts_yes : (x : Setup) → ((t : Terms) × (x ≡ Waiting t)) ⊎ (x ≡ Started) → accepts_in x ≡ true
accepts_yes x (inl w) = ap accepts_in w.1
accepts_yes x (inr e) = ap accepts_in e

-- kept, though the check finds it: with it the edits retired_is_accepted and waiting_is_not_accepted are refused by what is answered, and not by a search
-- that gave up
pub returns-in-Waiting : goal.returns-in-Waiting
returns-in-Waiting c = λ o q. sym (accepts_yes c.args.s.stage.setup c.in-Waiting.is)
