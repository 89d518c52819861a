-- What a call ends with: the session is the parts. Assumes nothing.
use Rattle.peer_session.specs.declared.SessionState.{SessionState}
use Rattle.draining.specs.declared.Ended.{Ended}
use Rattle.link_draining.specs.declared.Ending.{Ending}

abbrev pub ended_of : SessionState → Ending → Ended
ended_of s r = record { session = s; events = r.events; stop = r.stop }
