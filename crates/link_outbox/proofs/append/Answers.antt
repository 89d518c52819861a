use native.Mathlib.Omega.{arith}
use Rattle.link_outbox.proofs.Appends.{joined}
use Rattle.link_outbox.proofs.append.Goals as goal

pub returns : goal.returns
returns c =
    let a = c.args in
    joined a.words.now a.halves.now a.bytes.now a.store.now a.body.now c.copy_in.new.store a.at (omega arith) (omega arith) (omega arith) c.requires c.copy_in.ensures
