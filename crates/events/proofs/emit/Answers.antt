use native.Mathlib.Omega.{arith}
use lib.ListN.{length-set}
use Rattle.events.proofs.Laws.{four}
use Rattle.events.proofs.emit.Goals as goal

pub bounds-list-i-2 : goal.bounds-list-i-2
bounds-list-i-2 c = simp length-set (omega arith)

pub bounds-list-i-3 : goal.bounds-list-i-3
bounds-list-i-3 c = simp length-set (omega arith)

pub bounds-list-i-4 : goal.bounds-list-i-4
bounds-list-i-4 c = simp length-set (omega arith)

pub returns : goal.returns
returns c = four c.args.list.now _ c.args.code c.args.number c.args.start c.args.len c.requires
