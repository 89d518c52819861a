use mathlib.Core.Path.{◌∙◌}
use native.Mathlib.Omega.{arith}
use Rattle.receiving.proofs.Now.{ready}
use Rattle.link_arrivals.proofs.Steps.{few_now, abandoning, refused, may_put, carrying, taken}
use Rattle.link_arrivals.proofs.take_now.Goals as goal

pub deliver-requires : goal.deliver-requires
deliver-requires c = ready c.requires.taking

pub abandon-requires : goal.abandon-requires
abandon-requires c = abandoning c.args.words.now c.args.halves.now c.args.bytes.now c.args.clock.now c.requires c.in-Err.ensures c.deliver.auto.list

pub returns-in-Err : goal.returns-in-Err
returns-in-Err c = refused c.args.words.now c.args.halves.now c.args.bytes.now c.args.clock.now c.requires c.in-Err.ensures c.abandon.ensures

pub up_to-from-requires : goal.up_to-from-requires
up_to-from-requires c = few_now c.args.words.now c.args.halves.now c.args.bytes.now c.args.clock.now c.requires

pub put-requires : goal.put-requires
put-requires c = may_put c.args.words.now c.args.halves.now c.args.bytes.now c.args.clock.now c.requires c.in-Ok.ensures

pub carry-requires : goal.carry-requires
carry-requires c =
    carrying c.args.words.now c.args.halves.now c.args.bytes.now c.args.clock.now c.requires c.in-Ok.ensures (omega arith) (omega arith) c.put.ensures c.up_to-from.ensures c.request.ensures (c.request.auto.list ∙ c.deliver.auto.list) c.deliver.auto.delivery

pub returns-in-Ok : goal.returns-in-Ok
returns-in-Ok c = taken c.args.words.now c.args.halves.now c.args.bytes.now c.args.clock.now c.requires c.in-Ok.ensures (omega arith) (omega arith) c.put.ensures c.up_to-from.ensures c.request.ensures c.carry.ensures
