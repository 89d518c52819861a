use Rattle.link_handoffs.proofs.Commands.{exact_in, low_in}
use Rattle.link_handoffs.proofs.Steps.{stopped, goes}
use native.Mathlib.Omega.{arith}
use Rattle.link_handoffs.proofs.hand_off.Goals as goal

pub join-requires : goal.join-requires
join-requires c = (exact_in c.args.words.now c.args.halves.now c.args.bytes.now c.args.clock.now c.args.outbound.now c.requires.0, low_in c.args.words.now c.args.halves.now c.args.bytes.now c.args.clock.now c.args.outbound.now c.requires.0)

pub returns-in-Ok : goal.returns-in-Ok
returns-in-Ok c = goes c.args.words.now c.args.halves.now c.args.bytes.now c.args.clock.now c.args.list.now c.args.outbound.now c.args.c.body.now c.args.c.id c.requires.0 c.requires.1 (omega arith) c.in-Ok.ensures c.hand.ensures c.done.ensures

pub returns-in-Err : goal.returns-in-Err
returns-in-Err c = stopped c.args.words.now c.args.halves.now c.args.bytes.now c.args.clock.now c.args.list.now c.args.outbound.now c.args.c.body.now c.args.c.id c.requires.0 c.requires.1 c.in-Err.ensures c.refusal.ensures
