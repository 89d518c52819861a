-- `clock::held_back` meets its contract: the toolchain's own subtraction and comparison are those of the rule book. Assumes nothing.
use mathlib.Core.Path.{refl}
use lib.Ieee.{sub, lt, of_bits}
use Rattle.rules.specs.Clock.{held_back}
use Rattle.clock.proofs.held_back.Goals as goal

pub returns : goal.returns
unfolding held_back lt sub of_bits
returns c = refl
