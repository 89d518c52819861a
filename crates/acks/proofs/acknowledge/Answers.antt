use Rattle.acks.proofs.Steps.{acknowledges}
use Rattle.acks.proofs.acknowledge.Goals as goal

pub returns : goal.returns
returns c = acknowledges c.args.number c.args.s c.args.outbound.now c.acknowledge-left.result c.acknowledge-left.new.store c.acknowledged_clock-clock.result c.handoff_acknowledged-h.result c.requires.exact c.acknowledge-left.ensures c.acknowledged_clock-clock.ensures c.handoff_acknowledged-h.ensures
