use mathlib.Core.Path.{sym}
use Rattle.queue.specs.Steps.{arrived}
use Rattle.queue.proofs.View.{put_is, repacked_as}
use Rattle.queue.proofs.insert.Goals as goal

pub returns : goal.returns
returns c = repacked_as (sym (put_is (arrived c.args.number c.args.kind c.args.body.now) c.args.q c.args.store.now c.up_to-at.result c.requires.new c.up_to-at.ensures)) c.insert_at.ensures
