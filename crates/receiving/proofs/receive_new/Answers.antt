use mathlib.Core.Bool.{true, false}
use Rattle.receiving.proofs.Next.{taking}
use Rattle.receiving.proofs.receive_new.Goals as goal

pub take_now-requires : goal.take_now-requires
take_now-requires c = taking true c.args.status c.requires c.turn_of-t.ensures c.delivers.ensures c.if-delivers.true

pub enqueue-requires : goal.enqueue-requires
enqueue-requires c = taking false c.args.status c.requires c.turn_of-t.ensures c.delivers.ensures c.if-delivers.false
