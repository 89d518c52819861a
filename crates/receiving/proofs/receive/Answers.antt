use Rattle.delivery.specs.Turns.{lent_frame}
use Rattle.receiving.proofs.Data.{check_fits, fail_fits, refused_by, failed_by, again-fits, again_by, new-fits, new_by}
use Rattle.receiving.proofs.receive.Goals as goal

pub check-requires : goal.check-requires
check-requires c = check_fits c.requires.0

pub fail-requires : goal.fail-requires
fail-requires c = fail_fits c.requires.0

pub receive_again-requires : goal.receive_again-requires
receive_again-requires c = again-fits c.args.status (lent_frame c.args.f) c.args.s c.args.list.now c.args.delivery.now c.args.outbound.now c.args.queue.now c.requires.0 c.requires.1 c.check.ensures c.in-Again.is

pub receive_new-requires : goal.receive_new-requires
receive_new-requires c = new-fits c.args.status (lent_frame c.args.f) c.args.s c.args.list.now c.args.delivery.now c.args.outbound.now c.args.queue.now c.requires.0 c.requires.1 c.check.ensures c.in-New.is

pub returns-in-Refuse : goal.returns-in-Refuse
returns-in-Refuse c = refused_by c.args.status (lent_frame c.args.f) c.args.s c.args.list.now c.args.delivery.now c.args.outbound.now c.args.queue.now c.requires.0 c.requires.1 c.check.ensures c.in-Refuse.is c.refused.ensures

pub returns-in-Fail : goal.returns-in-Fail
returns-in-Fail c = failed_by c.args.status (lent_frame c.args.f) c.args.s c.args.list.now c.args.delivery.now c.args.outbound.now c.args.queue.now c.requires.0 c.requires.1 c.check.ensures c.in-Fail.is c.fail.ensures c.answered.ensures

pub returns-in-Again : goal.returns-in-Again
returns-in-Again c = again_by c.args.status (lent_frame c.args.f) c.args.s c.args.list.now c.args.delivery.now c.args.outbound.now c.args.queue.now c.requires.0 c.requires.1 c.check.ensures c.in-Again.is c.receive_again.ensures c.answered-in-Again.ensures

pub returns-in-New : goal.returns-in-New
returns-in-New c = new_by c.args.status (lent_frame c.args.f) c.args.s c.args.list.now c.args.delivery.now c.args.outbound.now c.args.queue.now c.requires.0 c.requires.1 c.check.ensures c.in-New.is c.receive_new.ensures c.answered-in-New.ensures
