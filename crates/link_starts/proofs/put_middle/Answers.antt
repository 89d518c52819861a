use native.Mathlib.Omega.{arith}
use Rattle.link_starts.proofs.Filling.{puts}
use Rattle.link_starts.proofs.Starts.{body_in}
use Rattle.link_starts.proofs.put_middle.Goals as goal

pub returns : goal.returns
unfolding puts
returns c = body_in c.args.disposition c.args.reject.now c.args.bytes.now c.copy_in.new.store (omega arith) c.requires c.copy_in.ensures
