use mathlib.Core.Path.{refl}
use Rattle.consumers.proofs.Consumers.{named, ready_carrying, ready_done}
use Rattle.consumers.proofs.ready.Goals as goal

pub carry-e-requires : goal.carry-e-requires
carry-e-requires c =
    let n = named c.args.mode in
    ready_carrying c.args.status n.code c.args.s c.args.list.now c.args.delivery.now c.args.outbound.now c.args.queue.now c.requires n.small n.is refl c.turn_of.ensures

pub returns : goal.returns
returns c = λ n k e. ready_done c.args.status n c.args.s c.args.list.now c.args.delivery.now c.args.outbound.now c.args.queue.now c.requires k e refl c.turn_of.ensures c.carry-e.ensures
