use Prim.Native.Nat.{◌≤◌, ◌+◌}
use lib.ListN.{length}
use native.Mathlib.Omega.{arith}
use Rattle.parts.specs.Parts.{at}
use Rattle.link_queue.proofs.Sums.{summing, end-bodies, start-before}
use Rattle.link_queue.proofs.Inserts.{put_in}
use Rattle.link_queue.proofs.insert_at.Goals as goal

pub start-from-requires : goal.start-from-requires
start-from-requires c =
    summing c.args.words.now c.args.halves.now c.args.bytes.now c.args.k c.requires.within c.requires.exact.few c.requires.exact.small

pub start-end-requires : goal.start-end-requires
start-end-requires c =
    summing c.args.words.now c.args.halves.now c.args.bytes.now (at c.args.words.now 4) (omega arith) c.requires.exact.few c.requires.exact.small

pub overflow_add-from : goal.overflow_add-from
overflow_add-from c =
    omega (arith, c.start-from.ensures, start-before c.args.words.now c.args.halves.now c.args.bytes.now c.args.k c.requires.within c.requires.exact.few, end-bodies c.args.words.now c.args.halves.now c.args.bytes.now c.requires.exact.few, c.requires.short)

pub overflow_sub-end : goal.overflow_sub-end
overflow_sub-end c =
    omega (arith, c.start-from.ensures, c.start-end.ensures, start-before c.args.words.now c.args.halves.now c.args.bytes.now c.args.k c.requires.within c.requires.exact.few)

pub move_run-requires : goal.move_run-requires
move_run-requires c = let reach : c.start-end.result + length c.args.body.now ≤ length c.args.store.now = omega (arith, c.start-end.ensures, end-bodies c.args.words.now c.args.halves.now c.args.bytes.now c.requires.exact.few, c.requires.short, c.requires.exact.room) in let within : c.start-from.result ≤ c.start-end.result = omega (arith, c.start-from.ensures, c.start-end.ensures, start-before c.args.words.now c.args.halves.now c.args.bytes.now c.args.k c.requires.within c.requires.exact.few) in (omega (arith, within, reach), omega (arith, within, reach))

pub copy_in-requires : goal.copy_in-requires
copy_in-requires c = let reach : c.start-end.result + length c.args.body.now ≤ length c.args.store.now = omega (arith, c.start-end.ensures, end-bodies c.args.words.now c.args.halves.now c.args.bytes.now c.requires.exact.few, c.requires.short, c.requires.exact.room) in let within : c.start-from.result ≤ c.start-end.result = omega (arith, c.start-from.ensures, c.start-end.ensures, start-before c.args.words.now c.args.halves.now c.args.bytes.now c.args.k c.requires.within c.requires.exact.few) in omega (arith, within, reach, c.move_run.auto.store)

pub returns : goal.returns
returns c =
    put_in c.args.words.now c.args.halves.now c.args.bytes.now c.args.store.now c.args.k c.args.number c.args.kind c.args.body.now c.requires (omega arith) (omega arith) (omega arith)
    c.raise.new.part c.raise-2.new.part c.raise-3.new.part c.raise.ensures c.raise-2.ensures c.raise-3.ensures
    c.start-from.result c.start-end.result c.start-from.ensures c.start-end.ensures
    c.move_run.new.store c.copy_in.new.store c.move_run.ensures c.copy_in.ensures
