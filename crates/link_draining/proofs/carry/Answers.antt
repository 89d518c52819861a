use native.Mathlib.Omega.{arith}
use Rattle.link_draining.proofs.Ends.{draining_in, finishing_in, abandoning_in, carries_on_in, carries_not_in}
use Rattle.link_draining.proofs.carry.Goals as goal

pub drain-d-requires : goal.drain-d-requires
drain-d-requires c = draining_in c.args.words.now c.args.halves.now c.args.bytes.now c.args.clock.now c.requires.0

pub abandon-requires : goal.abandon-requires
abandon-requires c = (abandoning_in c.args.words.now c.args.halves.now c.args.bytes.now c.args.clock.now c.requires.0 (omega arith) (omega arith) c.drain-d.ensures c.drain-d.auto.list, c.requires.1)

pub finish-requires : goal.finish-requires
finish-requires c = (finishing_in c.args.words.now c.args.halves.now c.args.bytes.now c.args.clock.now c.requires.0 (omega arith) (omega arith) c.drain-d.ensures, c.requires.1)

pub returns-in-Some : goal.returns-in-Some
returns-in-Some c = carries_not_in c.args.words.now c.args.halves.now c.args.bytes.now c.args.clock.now c.requires.0 (omega arith) (omega arith) c.drain-d.ensures c.in-Some.x c.in-Some.is c.abandon.ensures

pub returns-in-None : goal.returns-in-None
returns-in-None c = carries_on_in c.args.words.now c.args.halves.now c.args.bytes.now c.args.clock.now c.requires.0 (omega arith) (omega arith) c.drain-d.ensures c.in-None.is c.finish.ensures
