use Rattle.link_draining.proofs.Sessions.{turns}
use Rattle.link_draining.proofs.turn_of.Goals as goal

pub returns : goal.returns
returns c = turns c.args.words.now c.args.halves.now c.args.bytes.now c.args.clock.now c.requires c.mode_of.result c.mode_of.ensures c.clock_in.result c.clock_in.ensures
