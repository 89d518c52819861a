use native.Mathlib.Omega.{arith}
use Rattle.link_handoffs.proofs.Commands.{turned, commanding_in, drives}
use Rattle.handoffs.specs.Commands.{command_in}
use Rattle.link_handoffs.proofs.command.Goals as goal

pub goes-requires : goal.goes-requires
goes-requires c =
    let found = c.in-Ok.ensures c.args.clock.now in (
      commanding_in c.args.words.now c.args.halves.now c.args.bytes.now c.args.clock.now found.0 (omega arith) c.args.restoring c.starting.ensures,
      rw c.size_of-size.ensures at found.1,
    )

pub returns-in-Ok : goal.returns-in-Ok
returns-in-Ok c =
    drives c.args.words.now c.args.halves.now c.args.bytes.now c.args.clock.now c.args.list.now c.args.outbound.now c.args.restoring (command_in c.args.command)
    c.size_of-size.ensures (c.in-Ok.ensures c.args.clock.now) (omega arith) c.starting.ensures c.goes.ensures

pub returns-in-Err : goal.returns-in-Err
returns-in-Err c =
    turned c.args.words.now c.args.halves.now c.args.bytes.now c.args.clock.now c.args.list.now c.args.outbound.now c.args.restoring (command_in c.args.command)
    c.size_of-size.ensures c.in-Err.ensures c.refusal.ensures
