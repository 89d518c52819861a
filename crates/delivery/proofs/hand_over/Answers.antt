use Rattle.delivery.proofs.Written.{handed_over}
use Rattle.delivery.proofs.hand_over.Goals as goal

pub returns-clause-written : goal.returns-clause-written
returns-clause-written c =
    let s = c.args.s in
    let f = c.args.f in
    handed_over f.number f.body.now c.args.list.now s.events c.args.delivery.now s.at c.emit.new.list c.copy_in.new.store c.emit.ensures c.copy_in.ensures
