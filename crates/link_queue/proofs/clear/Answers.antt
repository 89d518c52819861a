use native.Mathlib.Omega.{arith}
use Rattle.parts.specs.Parts.{at}
use Rattle.link_queue.proofs.Sums.{summing, end-bodies}
use Rattle.link_queue.proofs.Drops.{cleared}
use Rattle.link_queue.proofs.clear.Goals as goal

pub start-end-requires : goal.start-end-requires
start-end-requires c =
    summing c.args.words.now c.args.halves.now c.args.bytes.now (at c.args.words.now 4) (omega arith) c.requires.few c.requires.small

pub clear-requires : goal.clear-requires
clear-requires c =
    (omega arith, omega (arith, c.start-end.ensures, end-bodies c.args.words.now c.args.halves.now c.args.bytes.now c.requires.few, c.requires.small, c.requires.room))

pub returns : goal.returns
returns c =
    cleared c.args.words.now c.args.halves.now c.args.bytes.now c.args.store.now c.requires (omega arith) c.start-end.result c.start-end.ensures c.clear.new.store c.clear.ensures
