use lib.ListN.{length, take}
use mathlib.Core.Path.{◌≡◌}
use lib.Seq.{length-take-le}
use Rattle.starts.proofs.Begins.{filled_is}
use Rattle.starts.proofs.fill.Goals as goal

pub returns : goal.returns
returns c = let part : length (take c.args.n c.args.bodies.now) ≡ c.args.n = length-take-le c.args.n c.args.bodies.now c.requires.0 in filled_is _ _ _ _ _ (part) c.before.requires.1 c.copy_in.ensures c.clear.ensures
