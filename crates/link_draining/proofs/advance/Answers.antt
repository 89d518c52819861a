use native.Mathlib.Omega.{arith}
use Rattle.link_draining.proofs.Turns.{advances_in}
use Rattle.link_draining.proofs.Ends.{settling_in}
use Rattle.link_draining.proofs.advance.Goals as goal

pub settle-requires : goal.settle-requires
settle-requires c = settling_in c.args.words.now c.args.halves.now c.args.bytes.now c.args.clock.now c.requires.0

pub returns : goal.returns
returns c = advances_in c.args.t c.args.words.now c.args.halves.now c.args.bytes.now c.args.clock.now c.args.outbound.now (omega arith) (omega arith) (omega arith) c.requires.1 c.settle.ensures c.set_clock.ensures
