use Prim.Native.Nat.{◌≤◌}
use lib.ListN.{length}
use native.Mathlib.Omega.{arith}
use Rattle.parts.specs.Parts.{at, unacked_at}
use Rattle.link_outbox.proofs.Sounds.{bounded, take-total}
use Rattle.link_outbox.proofs.Fronts.{bounded_front, from-within, shed_all}
use Rattle.link_outbox.proofs.shed.Goals as goal

pub used-from-requires : goal.used-from-requires
used-from-requires c =
    bounded_front c.args.words.now c.args.halves.now c.args.bytes.now c.args.k c.requires.1.few c.requires.0 c.requires.1.small

pub used-end-requires : goal.used-end-requires
used-end-requires c =
    bounded c.args.words.now c.args.halves.now c.args.bytes.now c.requires.1.few c.requires.1.small

pub overflow_sub-to : goal.overflow_sub-to
overflow_sub-to c = let within : c.used-from.result ≤ c.used-end.result = omega (arith, c.used-from.ensures c.args.bytes.now, c.used-end.ensures c.args.bytes.now, from-within c.args.words.now c.args.halves.now c.args.bytes.now c.args.k c.requires.1.few c.requires.0) in within

pub move_run-requires : goal.move_run-requires
move_run-requires c = let reach : c.used-end.result ≤ length c.args.store.now = omega (arith, c.used-end.ensures c.args.bytes.now, take-total (unacked_at c.args.halves.now c.args.bytes.now) (at c.args.words.now 1) c.requires.1.few, c.requires.1.small, c.requires.1.room) in let within : c.used-from.result ≤ c.used-end.result = omega (arith, c.used-from.ensures c.args.bytes.now, c.used-end.ensures c.args.bytes.now, from-within c.args.words.now c.args.halves.now c.args.bytes.now c.args.k c.requires.1.few c.requires.0) in (omega arith, omega (arith, within, reach))

pub clear-requires : goal.clear-requires
clear-requires c = let reach : c.used-end.result ≤ length c.args.store.now = omega (arith, c.used-end.ensures c.args.bytes.now, take-total (unacked_at c.args.halves.now c.args.bytes.now) (at c.args.words.now 1) c.requires.1.few, c.requires.1.small, c.requires.1.room) in (omega arith, omega (arith, reach, c.move_run.auto.store))

pub returns : goal.returns
returns c =
    λ ack f. shed_all ack c.args.words.now c.args.halves.now c.args.bytes.now c.args.store.now c.requires.1 (omega arith) (omega arith) (omega arith)
    c.args.k f c.lower_records.new.halves c.lower_records.new.bytes c.lower_records.ensures.0 c.lower_records.ensures.1
    c.used-from.result c.used-end.result (c.used-from.ensures c.args.bytes.now) (c.used-end.ensures c.args.bytes.now)
    c.move_run.new.store c.clear.new.store c.move_run.ensures c.clear.ensures
