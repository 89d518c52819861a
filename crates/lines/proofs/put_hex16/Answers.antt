use native.Mathlib.Omega.{arith}
use Rattle.lines.proofs.Laws.{hex_digits}
use Rattle.lines.proofs.put_hex16.Goals as goal

pub returns : goal.returns
returns c = hex_digits c.args.v (omega arith) _ c.hex-k.ensures.in_bounds c.hex-k.ensures.len c.hex-k.ensures.digits c.put_bytes.ensures
