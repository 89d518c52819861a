use Rattle.events.proofs.Emitted.{emitted_now, emitted_not}
use Rattle.events.proofs.emit_if.Goals as goal

-- kept, though the check finds it: with it the edits of emit_if are refused by what differs, and not by a search that gave up
pub returns-then-goes : goal.returns-then-goes
returns-then-goes c = emitted_now c.if-goes.true c.emit.ensures

pub returns : goal.returns
returns c = emitted_not c.if-goes.false
