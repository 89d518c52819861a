use Rattle.receiving.proofs.Choice.{delivers_next, delivers_ahead}
use Rattle.receiving.proofs.delivers.Goals as goal

pub returns-then-number-t : goal.returns-then-number-t
returns-then-number-t c = delivers_next c.args.status c.args.number c.args.kind c.args.t c.available.ensures (c.if-not-available.false) c.if-number-t.true c.deliverable.ensures

pub returns : goal.returns
returns c = delivers_ahead c.args.status c.args.number c.args.kind c.args.t c.available.ensures (c.if-not-available.false) c.requires c.if-number-t.false c.terminal.ensures
