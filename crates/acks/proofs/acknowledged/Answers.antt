use native.Mathlib.Omega.{arith}
use Rattle.acks.proofs.Steps.{asked-few, acked-is}
use Rattle.acks.proofs.acknowledged.Goals as goal

pub notify_acknowledged-m-requires : goal.notify_acknowledged-m-requires
notify_acknowledged-m-requires c = omega (arith, c.requires.0, asked-few c.acknowledge-r.result.clock c.request-n.ensures)

pub returns : goal.returns
returns c = acked-is c.args.number c.args.s c.args.list.now c.args.outbound.now c.acknowledge-r.result c.acknowledge-r.new.outbound c.acknowledge-r.ensures c.request-n.ensures c.rejection_complete-complete.ensures c.is_raw-raw.ensures c.notify_acknowledged-m.ensures
