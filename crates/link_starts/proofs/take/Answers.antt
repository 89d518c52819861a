use mathlib.Core.Path.{◌∙◌}
use native.Mathlib.Omega.{arith}
use Rattle.link_outbox.proofs.Sounds.{bounded}
use Rattle.link_outbox.proofs.Sounds.{ends_at}
use Rattle.link_starts.proofs.Messages.{takes_in}
use Rattle.link_starts.proofs.take.Goals as goal

pub used-end-requires : goal.used-end-requires
used-end-requires c = bounded c.args.words.now c.args.halves.now c.args.bytes.now c.requires.exact.few c.requires.exact.small

pub repack-requires : goal.repack-requires
repack-requires c = (omega (arith, c.body_bytes-n.ensures, c.requires.bytes), omega (arith, c.body_bytes-n.ensures, c.requires.fitting.small, c.requires.exact.room), omega (arith, c.used-end.ensures c.args.bytes.now, ends_at c.args.words.now c.args.halves.now c.args.bytes.now c.requires.exact.few, c.requires.exact.small, c.requires.exact.room))

pub returns : goal.returns
returns c = takes_in c.args.«record».reliable c.args.«record».numbers.now c.args.«record».lengths.now c.args.«record».bodies.now c.args.words.now c.args.halves.now c.args.bytes.now c.args.outbound.now (omega arith) (omega arith) c.records.ensures c.body_bytes-n.result c.used-end.result c.body_bytes-n.ensures (c.used-end.ensures c.args.bytes.now ∙ ends_at c.args.words.now c.args.halves.now c.args.bytes.now c.requires.exact.few) c.repack.ensures
