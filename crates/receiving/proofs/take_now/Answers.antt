use mathlib.Core.Path.{◌∙◌}
use Rattle.receiving.proofs.Now.{ready, now_refused, put-fits, now_carrying, now_taken}
use Rattle.receiving.proofs.take_now.Goals as goal

pub deliver-requires : goal.deliver-requires
deliver-requires c = ready c.requires

pub returns-in-Err : goal.returns-in-Err
returns-in-Err c = now_refused c.requires c.in-Err.ensures c.abandon.ensures

pub put-acks-requires : goal.put-acks-requires
put-acks-requires c = put-fits c.requires c.in-Ok.ensures

pub carry-requires : goal.carry-requires
carry-requires c = now_carrying c.requires c.in-Ok.ensures c.put-acks.ensures c.up_to-from.ensures c.request.ensures (c.request.auto.list ∙ c.deliver.auto.list) c.deliver.auto.delivery

pub returns-in-Ok : goal.returns-in-Ok
returns-in-Ok c = now_taken c.requires c.in-Ok.ensures c.put-acks.ensures c.up_to-from.ensures c.request.ensures c.carry.ensures
