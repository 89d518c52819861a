use mathlib.Core.Path.{sym}
use Rattle.link_draining.proofs.Outboxes.{reject-length, reject-fits, reject-joins}
use Rattle.link_draining.proofs.send_reject.Goals as goal

pub slice_bounds-append-end : goal.slice_bounds-append-end
slice_bounds-append-end c = sym (reject-length c.args.words.now c.args.halves.now c.args.bytes.now c.reject_in-j.result c.reject_in-j.ensures c.requires.1)

pub append-requires : goal.append-requires
append-requires c = reject-fits c.args.words.now c.args.halves.now c.args.bytes.now c.reject_in-j.result c.reject_in-j.ensures c.requires.1 c.requires.0

pub returns : goal.returns
returns c = reject-joins c.args.words.now c.args.halves.now c.args.bytes.now c.reject_in-j.result c.reject_in-j.ensures c.requires.1 c.append.ensures
