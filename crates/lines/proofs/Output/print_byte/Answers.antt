use native.Mathlib.Omega.{arith}
use Rattle.lines.proofs.Output.print_byte.Goals as goal

-- kept, though the check finds it: with it the edit byte_without_room is refused by the room, and not by a search that gave up
pub put_byte-self-requires : goal.put_byte-self-requires
put_byte-self-requires c = omega arith
