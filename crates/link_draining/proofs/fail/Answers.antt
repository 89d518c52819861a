use native.Mathlib.Omega.{arith}
use Rattle.link_draining.proofs.Ends.{fails_in}
use Rattle.link_draining.proofs.fail.Goals as goal

pub returns : goal.returns
returns c = fails_in c.args.x c.args.words.now c.args.halves.now c.args.bytes.now c.args.clock.now c.args.list.now c.args.n c.args.queue.now (omega arith) (omega arith) c.requires.codes c.clear.ensures c.mark_failed.ensures c.from-number.result c.from-number.ensures c.emit.ensures
