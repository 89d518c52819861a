use Rattle.outbox.proofs.Appends.{discarded}
use Rattle.outbox.proofs.discard.Goals as goal

pub returns : goal.returns
returns c =
    discarded c.args.o c.args.store.now c.clear.new.store c.requires c.used-end.result c.used-end.ensures c.clear.ensures
