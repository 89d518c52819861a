use Rattle.draining.proofs.Settled.{finished}
use Rattle.draining.proofs.finish.Goals as goal

-- kept, though the check finds it: with it the edit taken_frames_stay is refused by what is taken, and not by a search that gave up
pub returns : goal.returns
returns c = finished c.advance-r.ensures c.drop_front-left.ensures
