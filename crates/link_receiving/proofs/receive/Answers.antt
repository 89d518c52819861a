use Rattle.delivery.specs.Turns.{lent_frame}
use Rattle.link_receiving.proofs.Drives.{countable, may_fail, refused, may_acknowledge, may_receive, failed, acknowledged, received}
use Rattle.link_receiving.proofs.receive.Goals as goal

pub check-requires : goal.check-requires
check-requires c =
    countable c.args.status (lent_frame c.args.f) c.args.words.now c.args.halves.now c.args.bytes.now c.args.clock.now c.args.list.now c.args.delivery.now c.args.outbound.now c.args.queue.now c.requires

pub fail-e-requires : goal.fail-e-requires
fail-e-requires c =
    may_fail c.args.status (lent_frame c.args.f) c.args.words.now c.args.halves.now c.args.bytes.now c.args.clock.now c.args.list.now c.args.delivery.now c.args.outbound.now c.args.queue.now c.requires

pub receive_again-e-requires : goal.receive_again-e-requires
receive_again-e-requires c =
    may_acknowledge c.args.status (lent_frame c.args.f) c.args.words.now c.args.halves.now c.args.bytes.now c.args.clock.now c.args.list.now c.args.delivery.now c.args.outbound.now c.args.queue.now c.requires c.check.ensures c.in-Again.is

pub receive_new-e-requires : goal.receive_new-e-requires
receive_new-e-requires c =
    may_receive c.args.status (lent_frame c.args.f) c.args.words.now c.args.halves.now c.args.bytes.now c.args.clock.now c.args.list.now c.args.delivery.now c.args.outbound.now c.args.queue.now c.requires c.check.ensures c.in-New.is

pub returns-in-Refuse : goal.returns-in-Refuse
returns-in-Refuse c =
    refused c.args.status (lent_frame c.args.f) c.args.words.now c.args.halves.now c.args.bytes.now c.args.clock.now c.args.list.now c.args.delivery.now c.args.outbound.now c.args.queue.now c.requires c.check.ensures c.in-Refuse.x c.in-Refuse.is c.refusal.ensures

pub returns-in-Fail : goal.returns-in-Fail
returns-in-Fail c =
    failed c.args.status (lent_frame c.args.f) c.args.words.now c.args.halves.now c.args.bytes.now c.args.clock.now c.args.list.now c.args.delivery.now c.args.outbound.now c.args.queue.now c.requires c.check.ensures _ c.answered.ensures c.in-Fail.x c.in-Fail.is c.fail-e.ensures

pub returns-in-Again : goal.returns-in-Again
returns-in-Again c =
    acknowledged c.args.status (lent_frame c.args.f) c.args.words.now c.args.halves.now c.args.bytes.now c.args.clock.now c.args.list.now c.args.delivery.now c.args.outbound.now c.args.queue.now c.requires c.check.ensures _ c.answered-in-Again.ensures c.in-Again.is c.receive_again-e.ensures

pub returns-in-New : goal.returns-in-New
returns-in-New c =
    received c.args.status (lent_frame c.args.f) c.args.words.now c.args.halves.now c.args.bytes.now c.args.clock.now c.args.list.now c.args.delivery.now c.args.outbound.now c.args.queue.now c.requires c.check.ensures _ c.answered-in-New.ensures c.in-New.is c.receive_new-e.ensures
