use Prim.Native.Nat.{◌≤◌}
use native.Mathlib.Omega.{arith}
use Rattle.parts.specs.Parts.{at}
use Rattle.link_outbox.proofs.Fronts.{stay-within, shed_none}
use Rattle.link_outbox.proofs.acknowledge.Goals as goal

pub overflow_sub-gone : goal.overflow_sub-gone
overflow_sub-gone c = let within : c.staying-stay.result ≤ at c.args.words.now 1 = omega (arith, c.staying-stay.ensures, stay-within c.args.ack c.args.words.now c.args.halves.now c.args.bytes.now c.args.store.now c.requires (omega arith) (omega arith) (omega arith)) in within

pub returns-then-gone-eq0 : goal.returns-then-gone-eq0
returns-then-gone-eq0 c = let within : c.staying-stay.result ≤ at c.args.words.now 1 = omega (arith, c.staying-stay.ensures, stay-within c.args.ack c.args.words.now c.args.halves.now c.args.bytes.now c.args.store.now c.requires (omega arith) (omega arith) (omega arith)) in
    shed_none c.args.ack c.args.words.now c.args.halves.now c.args.bytes.now c.args.store.now c.requires (omega arith) (omega arith) (omega arith)
    (omega (arith, within, c.if-gone-eq0.true, c.staying-stay.ensures))
