use native.Mathlib.Omega.{arith}
use Rattle.link_retires.proofs.Retires.{exact-queue, retires_in}
use Rattle.link_retires.proofs.retired.Goals as goal

pub clear-requires : goal.clear-requires
clear-requires c = exact-queue c.args.words.now c.args.halves.now c.args.bytes.now c.args.queue.now c.requires

pub returns : goal.returns
returns c = record { retires = λ t. retires_in c.args.words.now c.args.halves.now c.args.bytes.now c.args.queue.now c.requires (omega arith) c.clear.ensures c.stage.ensures t }
