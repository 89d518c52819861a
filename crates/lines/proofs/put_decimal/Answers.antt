use native.Mathlib.Omega.{arith}
use Rattle.lines.proofs.Laws.{decimals}
use Rattle.lines.proofs.put_decimal.Goals as goal

-- kept, though the check finds it: with it the edit another_number_put is refused by what is put, and not by a search that gave up
pub returns : goal.returns
returns c = decimals c.args.v (omega arith) _ c.decimal-k.ensures.in_bounds c.decimal-k.ensures.len c.decimal-k.ensures.digits c.put_bytes.ensures
