use Rattle.setup.proofs.Retires.{forgets-is}
use Rattle.setup.proofs.forget.Goals as goal

pub returns : goal.returns
returns c = forgets-is c.args.s c.args.outbound.now c.discard-none.result c.discard-none.new.store c.discard-none.ensures
