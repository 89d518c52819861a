-- Data in any mode, on the parts of a session: what must hold past the tests at its entry. Assumes nothing.
use Rattle.std.specs.Prelude.{ℕ, ◌≤◌, List, Float}
use Rattle.rules.specs.Lists.{Bytes}
use Rattle.rules.specs.State.{Frame}
use Rattle.draining.specs.Arrived.{Arrived}
use Rattle.parts.specs.Parts.{parts, opened_of}

-- a session that calls leave, and buffers that are long enough
pub record Arriving (f : Frame) (w h b : List ℕ) (t : Float) (l : List ℕ) (d o q : Bytes) : Type 0 where
  pub arrived : Arrived (opened_of (parts w h b t)) l d o q
  pub kind : f.kind ≤ 2
