-- `link_questions::dirty` meets its contract, from the two generations. Assumes nothing.
use Rattle.link_questions.proofs.Asks.{is-dirty}
use Rattle.link_questions.proofs.dirty.Goals as goal

pub returns : goal.returns
returns c = λ o q. is-dirty c.args.words.now c.args.halves.now c.args.bytes.now c.args.clock.now o q
