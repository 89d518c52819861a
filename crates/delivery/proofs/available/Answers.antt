use Rattle.std.proofs.Common.{rules, arith}
use Rattle.delivery.proofs.Tests.{available_not, available_in}
use Rattle.delivery.proofs.available.Goals as goal
use Rattle.delivery.proofs.available.Goals.{then-t, else-t}

pub returns-then-not-status : goal.returns-then-not-status
returns-then-not-status c = available_not c.args.status c.args.t c.if-not-status.true

pub returns-in-Raw : goal.returns-in-Raw
returns-in-Raw c = available_in c.args.status c.args.t c.if-not-status.false (grind arith)

pub returns-after-t : goal.returns-after-t
returns-after-t c = available_in c.args.status c.args.t c.if-not-status.false (elim c.if-t.branch [ then-t w ↦ grind arith | else-t w ↦ grind arith ])

pub returns-in-Channel : goal.returns-in-Channel
returns-in-Channel c = available_in c.args.status c.args.t c.if-not-status.false (search rules)
