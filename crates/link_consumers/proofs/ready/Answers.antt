use native.Mathlib.Omega.{arith}
use Rattle.link_consumers.proofs.Drives.{codes, carrying, done}
use Rattle.link_consumers.proofs.ready.Goals as goal

pub turn_of-requires : goal.turn_of-requires
turn_of-requires c =
    codes c.args.status c.args.mode c.args.words.now c.args.halves.now c.args.bytes.now c.args.clock.now c.requires (omega arith)

pub carry-e-requires : goal.carry-e-requires
carry-e-requires c =
    carrying c.args.status c.args.mode c.args.words.now c.args.halves.now c.args.bytes.now c.args.clock.now c.requires (omega arith) c.turn_of.ensures

pub returns : goal.returns
returns c =
    done c.args.status c.args.mode c.args.words.now c.args.halves.now c.args.bytes.now c.args.clock.now c.requires (omega arith) c.turn_of.ensures _ c.done.ensures c.carry-e.ensures
