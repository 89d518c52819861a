use mathlib.Core.Path.{ap}
use Rattle.handoffs.specs.Commands.{command_in}
use Rattle.link_handoffs.proofs.Commands.{exact_in, holding_in, by_command}
use Rattle.link_restores.proofs.Handoffs.{flag-there}
use Rattle.link_handoffs.proofs.goes.Goals as goal

pub returns-in_default : goal.returns-in_default
returns-in_default c = by_command c.args.restoring (ap command_in c.in_default.is) (c.no_command.ensures c.args.outbound.now (exact_in c.args.words.now c.args.halves.now c.args.bytes.now c.args.clock.now c.args.outbound.now c.requires.0))

pub pending-requires : goal.pending-requires
pending-requires c = (c.requires.0.list, holding_in c.args.words.now c.args.halves.now c.args.bytes.now c.args.clock.now c.args.outbound.now c.requires.0 (flag-there _ c.if-bytes-eq0.false))
