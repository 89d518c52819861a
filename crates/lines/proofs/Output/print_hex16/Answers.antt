use native.Mathlib.Omega.{arith}
use Rattle.lines.proofs.Laws.{length_hex16}
use Rattle.lines.proofs.Output.print_hex16.Goals as goal

-- kept, though the check finds it: with it the edit digits_without_room is refused by the room, and not by a search that gave up
pub put_hex16-self-requires : goal.put_hex16-self-requires
put_hex16-self-requires c = omega arith

pub invariant_of-self : goal.invariant_of-self
invariant_of-self c = record { within = omega (arith, length_hex16 c.args.v, c.put_hex16-self.ensures.next, c.make_room.ensures) }
