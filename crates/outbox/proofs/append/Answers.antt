use Rattle.outbox.proofs.Appends.{appended}
use Rattle.outbox.proofs.append.Goals as goal

pub returns : goal.returns
returns c =
    appended c.args.o c.args.store.now c.args.body.now c.copy_in.new.store c.args.at c.requires c.copy_in.ensures
