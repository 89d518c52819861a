use Rattle.receiving.proofs.Again.{answers-again, waits-again}
use Rattle.receiving.proofs.receive_again.Goals as goal

pub returns-then-number-s : goal.returns-then-number-s
returns-then-number-s c = answers-again c.args.number c.args.s c.args.list.now c.emit.new.list c.request.new.list c.request.result c.if-number-s.true c.emit.ensures c.request.ensures

pub returns : goal.returns
returns c = waits-again c.args.number c.args.s c.args.list.now c.put-r.result c.request-2.new.list c.request-2.result c.if-number-s.false c.put-r.ensures c.request-2.ensures
