use Rattle.draining.proofs.Carried.{draining, finishing, abandoning, carries-on, carries_not}
use Rattle.draining.proofs.carry.Goals as goal

pub drain-d-requires : goal.drain-d-requires
drain-d-requires c = draining c.requires

pub abandon-requires : goal.abandon-requires
abandon-requires c = abandoning c.requires c.drain-d.ensures c.drain-d.auto.list

pub finish-requires : goal.finish-requires
finish-requires c = finishing c.requires c.drain-d.ensures

pub returns-in-Some : goal.returns-in-Some
returns-in-Some c = carries_not c.requires c.drain-d.ensures c.in-Some.x c.in-Some.is c.abandon.ensures

pub returns-in-None : goal.returns-in-None
returns-in-None c = carries-on c.requires c.drain-d.ensures c.in-None.is c.finish.ensures
