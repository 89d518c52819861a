use native.Mathlib.Omega.{arith}
use Rattle.draining.proofs.Settled.{settles_both, settles-none, reject-room}
use Rattle.draining.proofs.settle.Goals as goal

pub returns-then-t-2 : goal.returns-then-t-2
returns-then-t-2 c = settles_both c.args.t c.args.j c.args.o c.args.outbound.now c.requires c.if-t.true c.if-t-2.true

pub send_reject-requires : goal.send_reject-requires
send_reject-requires c = (reject-room c.args.t c.args.j c.args.o c.args.outbound.now c.requires c.if-t.true, omega (arith, c.requires.short, c.requires.full))

pub returns : goal.returns
returns c = settles-none c.args.t c.args.j c.args.o c.args.outbound.now c.requires c.if-t.false c.if-t-3.false
