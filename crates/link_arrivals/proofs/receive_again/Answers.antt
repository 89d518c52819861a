use native.Mathlib.Omega.{arith}
use Rattle.link_arrivals.proofs.Steps.{answers, waits, fits}
use Rattle.link_arrivals.proofs.receive_again.Goals as goal

pub returns-then-number-words : goal.returns-then-number-words
returns-then-number-words c =
    answers c.args.number c.args.words.now c.args.halves.now c.args.bytes.now c.args.clock.now c.args.list.now c.clock_in-c.ensures c.if-number-words.true c.emit.ensures c.request-n.ensures

pub put-requires : goal.put-requires
put-requires c =
    (c.requires.1, fits c.args.number c.args.words.now c.args.halves.now c.args.bytes.now c.args.clock.now c.args.list.now c.requires.0 c.if-number-words.false)

pub returns : goal.returns
returns c =
    waits c.args.number c.args.words.now c.args.halves.now c.args.bytes.now c.args.clock.now c.args.list.now (omega arith) (omega arith) c.put.ensures c.clock_in-c.ensures c.if-number-words.false c.request-n-2.ensures
