use Prim.Native.Nat.{◌≤◌}
use lib.ListN.{length}
use native.Mathlib.Omega.{arith}
use Rattle.parts.specs.Parts.{at}
use Rattle.link_queue.proofs.Sums.{summing, end-bodies, start-before}
use Rattle.link_queue.proofs.Drops.{dropped_some}
use Rattle.link_queue.proofs.shed.Goals as goal

pub start-from-requires : goal.start-from-requires
start-from-requires c =
    summing c.args.words.now c.args.halves.now c.args.bytes.now c.args.k c.requires.0 c.requires.1.few c.requires.1.small

pub start-end-requires : goal.start-end-requires
start-end-requires c =
    summing c.args.words.now c.args.halves.now c.args.bytes.now (at c.args.words.now 4) (omega arith) c.requires.1.few c.requires.1.small

pub overflow_sub-n : goal.overflow_sub-n
overflow_sub-n c =
    omega (arith, c.start-from.ensures, c.start-end.ensures, start-before c.args.words.now c.args.halves.now c.args.bytes.now c.args.k c.requires.0 c.requires.1.few)

pub move_run-requires : goal.move_run-requires
move_run-requires c =
    let within : c.start-from.result ≤ c.start-end.result =
    omega (arith, c.start-from.ensures, c.start-end.ensures, start-before c.args.words.now c.args.halves.now c.args.bytes.now c.args.k c.requires.0 c.requires.1.few) in
    let reach : c.start-end.result ≤ length c.args.store.now =
    omega (arith, c.start-end.ensures, end-bodies c.args.words.now c.args.halves.now c.args.bytes.now c.requires.1.few, c.requires.1.small, c.requires.1.room) in
    (omega (arith, within, reach), omega (arith, within, reach))

pub clear-requires : goal.clear-requires
clear-requires c =
    let reach : c.start-end.result ≤ length c.args.store.now =
    omega (arith, c.start-end.ensures, end-bodies c.args.words.now c.args.halves.now c.args.bytes.now c.requires.1.few, c.requires.1.small, c.requires.1.room) in
    (omega arith, omega (arith, reach, c.move_run.auto.store))

pub returns : goal.returns
returns c =
    dropped_some c.args.words.now c.args.halves.now c.args.bytes.now c.args.store.now c.requires.1 (omega arith)
    c.args.k c.requires.0 c.lower.new.part c.lower-2.new.part c.lower-3.new.part c.lower.ensures c.lower-2.ensures c.lower-3.ensures
    c.start-from.result c.start-end.result c.start-from.ensures c.start-end.ensures
    c.move_run.new.store c.clear.new.store c.move_run.ensures c.clear.ensures
