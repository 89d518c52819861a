use native.Mathlib.Omega.{arith}
use lib.Ieee.{of_bits}
use Rattle.link_starts.proofs.Starts.{begun_in}
use Rattle.link_starts.proofs.begin.Goals as goal

pub returns : goal.returns
unfolding of_bits
returns c = begun_in c.args.«record».reliable c.args.«record».numbers.now c.args.«record».lengths.now c.args.policy c.args.reject.now (omega arith) (omega arith) c.records.ensures c.put_head.ensures c.put_tail.ensures c.put_middle.ensures
