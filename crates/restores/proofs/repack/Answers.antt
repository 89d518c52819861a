use mathlib.Core.Path.{◌≡◌}
use lib.ListN.{length, take}
use lib.Seq.{length-take-le}
use Rattle.restores.proofs.Records.{grown, shrunk}
use Rattle.restores.proofs.repack.Goals as goal

pub returns-then-end-n : goal.returns-then-end-n
returns-then-end-n c = let part : length (take c.args.n c.args.bodies.now) ≡ c.args.n = length-take-le c.args.n c.args.bodies.now c.requires.0 in grown _ _ _ _ _ (part) c.copy_in.ensures c.if-end-n.true

pub returns : goal.returns
returns c = let part : length (take c.args.n c.args.bodies.now) ≡ c.args.n = length-take-le c.args.n c.args.bodies.now c.requires.0 in shrunk _ _ _ _ _ (part) c.copy_in.ensures _ c.if-end-n.false c.before.requires.2 c.clear.ensures
