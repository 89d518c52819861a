use native.Mathlib.Omega.{arith}
use Rattle.link_queue.proofs.Drops.{dropped_none, cleared-front}
use Rattle.link_queue.proofs.drop_front.Goals as goal

pub returns-then-k-eq0 : goal.returns-then-k-eq0
returns-then-k-eq0 c =
    dropped_none c.args.words.now c.args.halves.now c.args.bytes.now c.args.store.now c.requires.1 (omega arith) c.args.k c.if-k-eq0.true

pub returns-then-k-words : goal.returns-then-k-words
returns-then-k-words c =
    cleared-front c.args.words.now c.args.halves.now c.args.bytes.now c.args.store.now c.requires.1 (omega arith) c.args.k c.clear.new.words c.clear.new.store c.if-k-words.true c.clear.ensures
