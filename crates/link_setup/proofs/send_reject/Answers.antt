use native.Mathlib.Omega.{arith}
use mathlib.Core.Path.{sym}
use lib.Seq.{length-take-le}
use Rattle.link_sound.proofs.Parts.{usable}
use Rattle.link_setup.proofs.Joins.{low_half}
use Rattle.link_setup.proofs.Rejects.{body-within, went, stopped}
use Rattle.link_setup.proofs.send_reject.Goals as goal

pub slice_bounds-body-end : goal.slice_bounds-body-end
slice_bounds-body-end c = body-within c.args.words.now c.args.halves.now c.args.bytes.now c.args.clock.now c.args.outbound.now c.requires c.reject_in-j.result c.reject_in-j.ensures

pub slice_bounds-join-end : goal.slice_bounds-join-end
slice_bounds-join-end c = sym (length-take-le c.reject_in-j.result.len c.reject_in-j.result.bytes (body-within c.args.words.now c.args.halves.now c.args.bytes.now c.args.clock.now c.args.outbound.now c.requires c.reject_in-j.result c.reject_in-j.ensures))

pub join-requires : goal.join-requires
join-requires c = ((usable c.args.words.now c.args.halves.now c.args.bytes.now c.args.clock.now c.requires.checked).unacked c.args.outbound.now c.requires.outbound, low_half c.args.words.now c.args.halves.now c.args.bytes.now c.args.clock.now c.requires.checked c.requires.low)

pub returns-in-Ok : goal.returns-in-Ok
returns-in-Ok c = went c.args.words.now c.args.halves.now c.args.bytes.now c.args.clock.now c.args.list.now c.args.outbound.now c.requires c.reject_in-j.ensures (omega arith) c.in-Ok.ensures c.done.ensures

pub returns-in-Err : goal.returns-in-Err
returns-in-Err c = stopped c.args.words.now c.args.halves.now c.args.bytes.now c.args.clock.now c.args.list.now c.args.outbound.now c.requires c.reject_in-j.ensures c.in-Err.ensures c.refusal.ensures
