use native.Mathlib.Omega.{arith}
use Rattle.link_sound.proofs.Parts.{usable}
use Rattle.link_setup.proofs.Joins.{low_half}
use Rattle.link_setup.proofs.Accepts.{proposes, stopped}
use Rattle.link_setup.proofs.propose.Goals as goal

pub join-requires : goal.join-requires
join-requires c = ((usable c.args.words.now c.args.halves.now c.args.bytes.now c.args.clock.now c.requires.0.checked).unacked c.args.outbound.now c.requires.0.outbound, low_half c.args.words.now c.args.halves.now c.args.bytes.now c.args.clock.now c.requires.0.checked c.requires.0.low)

pub returns-in-Ok : goal.returns-in-Ok
returns-in-Ok c = proposes c.args.words.now c.args.halves.now c.args.bytes.now c.args.clock.now c.args.terms c.args.outbound.now c.args.body.now c.requires.0 c.requires.1 (omega arith) c.in-Ok.ensures c.stage.ensures c.done.ensures

pub returns-in-Err : goal.returns-in-Err
returns-in-Err c = stopped c.args.words.now c.args.halves.now c.args.bytes.now c.args.clock.now c.args.terms c.args.outbound.now c.args.body.now c.requires.0 c.requires.1 c.in-Err.ensures c.refusal.ensures
