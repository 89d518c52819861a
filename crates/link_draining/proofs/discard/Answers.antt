use native.Mathlib.Omega.{arith}
use Rattle.link_outbox.proofs.Sounds.{bounded}
use Rattle.link_outbox.proofs.Sounds.{ends_at}
use Rattle.link_draining.proofs.Outboxes.{discards}
use Rattle.link_draining.proofs.discard.Goals as goal

pub used-end-requires : goal.used-end-requires
used-end-requires c = bounded c.args.words.now c.args.halves.now c.args.bytes.now c.requires.few c.requires.small

pub clear-requires : goal.clear-requires
clear-requires c = (omega arith, omega (arith, c.used-end.ensures c.args.bytes.now, ends_at c.args.words.now c.args.halves.now c.args.bytes.now c.requires.few, c.requires.small, c.requires.room))

pub returns : goal.returns
returns c = discards c.args.words.now c.args.halves.now c.args.bytes.now (omega arith) c.args.outbound.now _ c.requires c.used-end.result (c.used-end.ensures c.args.bytes.now) c.clear.ensures
