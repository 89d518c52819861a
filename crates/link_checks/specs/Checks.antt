-- The checks of data, on the parts of a session. Assumes nothing.
use Rattle.std.specs.Prelude.{ℕ, ◌≤◌, Bool, List, Float}
use Rattle.numbers.specs.Seats.{ExactNumbers}
use Rattle.receiving.specs.declared.Verdict.{Verdict}
use Rattle.receiving.specs.Checks as Checks
use Rattle.parts.specs.Parts.{parts, at, waiting_in, opened_of}

-- the acks that wait and the queued frames within their arrays
pub record Countable (w : List ℕ) : Type 0 where
  pub waits : ExactNumbers (waiting_in w)
  pub few : at w 4 ≤ 256

abbrev pub Filled : ℕ → List ℕ → Bool → Type 0
Filled n w r = (h b : List ℕ) (t : Float) → Checks.Filled n (opened_of (parts w h b t)) r

abbrev pub Judged : ℕ → ℕ → List ℕ → Verdict → Type 0
Judged n len w r = (h b : List ℕ) (t : Float) → Checks.Checked n len (opened_of (parts w h b t)) r
