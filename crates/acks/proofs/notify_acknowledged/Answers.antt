use native.Mathlib.Omega.{arith}
use Rattle.acks.proofs.Steps.{notices-listed}
use Rattle.acks.proofs.notify_acknowledged.Goals as goal

pub returns : goal.returns
returns c = notices-listed c.args.number c.args.complete c.args.raw (omega (arith, c.requires)) c.emit_if-m.ensures c.emit_if.ensures
