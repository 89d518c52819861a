use Rattle.link_setup.proofs.Accepts.{turned}
use Rattle.link_setup.proofs.accept.Goals as goal

pub returns-in-Err : goal.returns-in-Err
returns-in-Err c = turned c.args.words.now c.args.halves.now c.args.bytes.now c.args.clock.now c.args.terms c.args.outbound.now c.args.body.now c.in-Err.ensures c.refusal.ensures
