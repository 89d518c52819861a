use mathlib.Core.Path.{sym, ap}
use Rattle.rules.specs.declared.Answer.{Answer}
use Rattle.parts.specs.Codes.{answer_of}
use Rattle.link_codes.proofs.answer_of.Goals as goal

-- kept, though the check finds it: with it the edit held_start_for_length is refused by what is answered
pub returns-in-Held : goal.returns-in-Held
returns-in-Held c = sym (ap (λ (x : Answer). answer_of x c.args.events) c.in-Held.is)
