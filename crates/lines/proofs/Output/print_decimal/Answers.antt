use native.Mathlib.Omega.{arith}
use Rattle.lines.proofs.Output.print_decimal.Goals as goal

-- kept, though the check finds it: with it the edit number_without_room is refused by the room, and not by a search that gave up
pub put_decimal-self-requires : goal.put_decimal-self-requires
put_decimal-self-requires c = omega arith
