use Prim.Native.Nat.{◌≤◌}
use native.Mathlib.Omega.{arith}
use Rattle.queue.specs.Steps.{arrived}
use Rattle.queue.proofs.Changes.{start-within, inserted}
use Rattle.queue.proofs.insert_at.Goals as goal

pub overflow_add-from : goal.overflow_add-from
overflow_add-from c = let within : c.start-from.result ≤ c.used-end.result = omega (arith, c.used-end.ensures, c.start-from.ensures, start-within c.args.q c.args.at) in omega (arith, within, c.used-end.ensures, c.requires.short)

pub overflow_sub-end : goal.overflow_sub-end
overflow_sub-end c = let within : c.start-from.result ≤ c.used-end.result = omega (arith, c.used-end.ensures, c.start-from.ensures, start-within c.args.q c.args.at) in omega (arith, within)

pub move_run-requires : goal.move_run-requires
move_run-requires c = let within : c.start-from.result ≤ c.used-end.result = omega (arith, c.used-end.ensures, c.start-from.ensures, start-within c.args.q c.args.at) in omega (arith, within, c.used-end.ensures, c.requires.short, c.requires.exact.room)

pub copy_in-requires : goal.copy_in-requires
copy_in-requires c = let within : c.start-from.result ≤ c.used-end.result = omega (arith, c.used-end.ensures, c.start-from.ensures, start-within c.args.q c.args.at) in omega (arith, within, c.used-end.ensures, c.requires.short, c.requires.exact.room, c.move_run.auto.store)

pub returns : goal.returns
returns c =
    inserted c.args.q c.args.store.now c.args.at (arrived c.args.number c.args.kind c.args.body.now) c.requires c.start-from.result c.used-end.result c.start-from.ensures c.used-end.ensures
    c.move_run.new.store c.copy_in.new.store c.move_run-2.new.store c.move_run.ensures c.copy_in.ensures c.move_run-2.ensures
