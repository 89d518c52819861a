-- What must hold past the tests at the entry. Assumes nothing.
use Rattle.std.specs.Prelude.{ℕ, ◌≤◌, List, Float}
use Rattle.rules.specs.Lists.{Bytes}
use Rattle.draining.specs.Arrived.{Arrived}
use Rattle.parts.specs.Parts.{parts, opened_of}

pub record Readying (mode : ℕ) (w h b : List ℕ) (t : Float) (l : List ℕ) (d o q : Bytes) : Type 0 where
  pub arrived : Arrived (opened_of (parts w h b t)) l d o q
  pub known : mode ≤ 4
