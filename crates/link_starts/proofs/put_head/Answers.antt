use native.Mathlib.Omega.{arith}
use Rattle.link_starts.proofs.Filling.{puts, puts_filled}
use Rattle.link_starts.specs.Starts.{head}
use Rattle.link_starts.proofs.put_head.Goals as goal

pub returns : goal.returns
unfolding puts
returns c = puts_filled 0 (head c.args.«record» c.args.count c.args.policy c.args.reject) c.args.words.now (omega arith)
