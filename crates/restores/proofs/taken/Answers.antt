use Rattle.restores.proofs.Records.{takes}
use Rattle.restores.proofs.taken.Goals as goal

pub returns : goal.returns
returns c = takes c.args.«record».reliable c.args.«record».numbers.now c.args.«record».lengths.now c.args.«record».bodies.now c.args.s c.args.outbound.now c.requires c.records-outbox.result c.records-outbox.ensures c.body_bytes-n.result c.used-end.result c.body_bytes-n.ensures c.used-end.ensures c.repack.new.store c.repack.ensures
