use Rattle.parts.specs.Parts.{parts}
use Rattle.starts.proofs.Begins.{away, goes}
use Rattle.link_starts.proofs.Starts.{turned}
use Rattle.link_starts.proofs.start.Goals as goal

pub returns-in-Err : goal.returns-in-Err
returns-in-Err c = turned c.args.«record».reliable c.args.«record».numbers.now c.args.«record».lengths.now c.args.«record».bodies.now c.args.policy c.args.reject.now (parts c.args.words.now c.args.halves.now c.args.bytes.now c.args.clock.now) c.args.outbound.now c.args.queue.now _ (away c.args.«record».reliable c.args.«record».numbers.now c.args.«record».lengths.now c.args.«record».bodies.now c.args.policy c.args.reject.now c.enters.ensures _ c.in-Err.is) c.refusal.ensures

pub starts_it-requires : goal.starts_it-requires
starts_it-requires c = goes c.args.«record».reliable c.args.«record».numbers.now c.args.«record».lengths.now c.args.«record».bodies.now c.args.policy c.args.reject.now c.enters.ensures c.in-Ok.is
