use Rattle.parts.specs.Parts.{parts}
use Rattle.link_restores.proofs.Restores.{away, turned}
use Rattle.restores.specs.Restored.{given_if}
use Rattle.link_restores.proofs.restore.Goals as goal

pub returns-in-Err : goal.returns-in-Err
returns-in-Err c = turned c.args.«record».reliable c.args.«record».numbers.now c.args.«record».lengths.now c.args.«record».bodies.now (given_if c.args.given) (parts c.args.words.now c.args.halves.now c.args.bytes.now c.args.clock.now) c.args.outbound.now _ (away c.args.«record».reliable c.args.«record».numbers.now c.args.«record».lengths.now c.args.«record».bodies.now (given_if c.args.given) c.args.words.now c.args.halves.now c.args.bytes.now c.args.clock.now c.enters-stop.ensures _ c.in-Err.is) c.refusal.ensures
