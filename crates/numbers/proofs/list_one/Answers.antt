use Rattle.numbers.proofs.Passes.{listed_one}
use Rattle.numbers.proofs.list_one.Goals as goal

pub returns : goal.returns
returns c = listed_one c.args.upto c.args.x c.emit_if.ensures
