use Prim.Native.Nat.{◌-◌, ◌≤◌}
use mathlib.Core.Path.{refl}
use native.Mathlib.Omega.{arith}
use lib.ListN.{replicate}
use Rattle.queue.proofs.Changes.{start-within, dropped}
use Rattle.queue.proofs.drop_front.Goals as goal

pub overflow_sub-n : goal.overflow_sub-n
overflow_sub-n c = let within : c.start-from.result ≤ c.used-end.result = omega (arith, c.used-end.ensures, c.start-from.ensures, start-within c.args.q c.args.k) in omega (arith, within)

pub move_run-requires : goal.move_run-requires
move_run-requires c = let within : c.start-from.result ≤ c.used-end.result = omega (arith, c.used-end.ensures, c.start-from.ensures, start-within c.args.q c.args.k) in omega (arith, within, c.used-end.ensures, c.requires.1.small, c.requires.1.room)

pub returns : goal.returns
returns c =
    dropped c.args.q c.args.store.now c.args.k c.requires.0 c.requires.1 c.start-from.result c.used-end.result (c.used-end.result - c.start-from.result) c.start-from.ensures c.used-end.ensures refl
    c.move_run.new.store c.clear.new.store c.move_run-2.new.store (replicate (c.used-end.result - (c.used-end.result - c.start-from.result)) 0) c.move_run.ensures refl c.clear.ensures c.move_run-2.ensures
