use Rattle.peer_session.proofs.Breaks.{breaks, fails_in, fails-not}
use Rattle.peer_session.proofs.broken.Goals as goal
use Rattle.peer_session.proofs.broken.Goals.{in-Channel, in_default}

pub returns-then-matches : goal.returns-then-matches
returns-then-matches c =
    breaks c.args.s c.args.queue.now c.clear-none.result c.clear-none.new.store _ c.clear-none.ensures
    (elim c.match-matches.branch [ in-Channel w ↦ fails_in c.args.s.stage.failed w.in-Channel.is | in_default w ↦ cc ])

pub returns-else-matches : goal.returns-else-matches
returns-else-matches c =
    breaks c.args.s c.args.queue.now c.clear-none.result c.clear-none.new.store _ c.clear-none.ensures
    (elim c.match-matches.branch [ in-Channel w ↦ cc | in_default w ↦ fails-not c.args.s.stage.mode c.args.s.stage.failed w.in_default.not-Channel ])
