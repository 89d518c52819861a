-- Data that passed its checks, on the parts of a session: what must hold for its steps. Assumes nothing.
use Rattle.std.specs.Prelude.{ℕ, Bool, true, List, Float}
use Rattle.rules.specs.declared.HostStatus.{HostStatus}
use Rattle.rules.specs.Lists.{Bytes}
use Rattle.rules.specs.State.{Frame}
use Rattle.peer_session.specs.Sound as Sounds
use Rattle.delivery.specs.declared.Turn.{Turn}
use Rattle.receiving.specs.Checks as Checks
use Rattle.parts.specs.Parts.{parts, opened_of}

-- a session that calls leave, and data that is no duplicate
pub record Receiving (f : Frame) (w h b : List ℕ) (t : Float) (l : List ℕ) (d o q : Bytes) : Type 0 where
  pub checked : Sounds.Checked (opened_of (parts w h b t)) true
  pub receiving : Checks.Receiving f (opened_of (parts w h b t)) l d o q

-- with the turn that begins, and whether it is delivered now
pub record Taking (now : Bool) (status : HostStatus) (u : Turn) (f : Frame) (w h b : List ℕ) (t : Float) (l : List ℕ) (d o q : Bytes) : Type 0 where
  pub checked : Sounds.Checked (opened_of (parts w h b t)) true
  pub taking : Checks.Taking now status u f (opened_of (parts w h b t)) l d o q
