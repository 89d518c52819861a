use native.Mathlib.Omega.{arith}
use Rattle.scripts.proofs.print_events.Goals as goal

-- kept, though the check finds it: with it the edit events_past_the_list is refused by the list's length, and not by a search that gave up
pub print_words-requires : goal.print_words-requires
print_words-requires c = omega arith
