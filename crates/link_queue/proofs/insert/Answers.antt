use Rattle.link_queue.proofs.Inserts.{room_for, put-at, put_last}
use Rattle.link_queue.proofs.Tops.{leads_below}
use mathlib.Core.Path.{refl}
use Rattle.link_queue.proofs.insert.Goals as goal

pub returns-then-above : goal.returns-then-above
returns-then-above c = put_last c.args.words.now c.args.halves.now c.args.bytes.now c.args.store.now c.args.number c.args.kind c.args.body.now c.requires.enters _ (leads_below c.requires.topped.few (c.above.ensures c.if-above.true) c.args.halves.now c.args.bytes.now) refl c.join.new.words c.join.new.halves c.join.new.bytes c.join.new.store c.join.ensures

pub insert_at-requires : goal.insert_at-requires
insert_at-requires c = room_for c.args.words.now c.args.halves.now c.args.bytes.now c.args.store.now c.args.number c.args.kind c.args.body.now c.requires.enters c.up_to-k.result (c.up_to-k.ensures c.args.halves.now c.args.bytes.now)

pub returns : goal.returns
returns c = put-at c.args.words.now c.args.halves.now c.args.bytes.now c.args.store.now c.args.number c.args.kind c.args.body.now c.requires.enters c.up_to-k.result (c.up_to-k.ensures c.args.halves.now c.args.bytes.now) c.insert_at.new.words c.insert_at.new.halves c.insert_at.new.bytes c.insert_at.new.store c.insert_at.ensures
