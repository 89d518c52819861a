use Rattle.link_queue.proofs.Joins.{is_joined}
use Rattle.link_queue.proofs.join.Goals as goal

pub returns : goal.returns
returns c =
    is_joined c.args.words.now c.args.halves.now c.args.bytes.now c.args.store.now c.args.number c.args.kind c.args.body.now c.args.end
    c.requires c.copy_in.ensures
