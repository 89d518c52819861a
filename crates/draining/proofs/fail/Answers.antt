use Rattle.draining.proofs.Failing.{fails}
use Rattle.draining.proofs.fail.Goals as goal

pub returns : goal.returns
returns c = fails c.args.x c.args.s c.args.list.now c.args.n c.args.queue.now c.broken-emptied.result c.from-number.result c.emit.new.list c.broken-emptied.new.queue c.broken-emptied.ensures c.from-number.ensures c.emit.ensures
