use native.Mathlib.Omega.{arith}
use Rattle.link_sending.proofs.Sends.{went, stopped, exact-outbox, low_generation}
use Rattle.link_sending.proofs.goes.Goals as goal

pub join-requires : goal.join-requires
join-requires c = (exact-outbox c.args.words.now c.args.halves.now c.args.bytes.now c.args.clock.now c.args.outbound.now c.requires, low_generation c.args.words.now c.args.halves.now c.args.bytes.now c.args.clock.now c.requires)

pub returns-in-Ok : goal.returns-in-Ok
returns-in-Ok c = went c.args.words.now c.args.halves.now c.args.bytes.now c.args.clock.now c.args.list.now c.args.outbound.now c.args.body.now c.requires (omega arith) c.in-Ok.ensures c.clock_in-k.ensures c.request-n.ensures c.number.ensures

pub returns-in-Err : goal.returns-in-Err
returns-in-Err c = stopped c.args.words.now c.args.halves.now c.args.bytes.now c.args.clock.now c.args.list.now c.args.outbound.now c.args.body.now c.requires c.in-Err.ensures c.refusal.ensures
