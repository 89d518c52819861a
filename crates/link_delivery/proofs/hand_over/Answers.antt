use Rattle.link_delivery.proofs.Raw.{handed-raw}
use Rattle.link_delivery.proofs.hand_over.Goals as goal

pub returns : goal.returns
returns c =
    let x = c.args in
    handed-raw x.number x.generation x.persisted x.list.now x.n x.delivery.now x.at c.requires.0 c.requires.1
    c.emit.ensures c.copy_in.ensures c.emit_if.ensures
