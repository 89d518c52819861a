-- A set of numbers in the words of a session: 512 of them from an index on, with its count at an index before them. Assumes nothing.
use Rattle.std.specs.Prelude.{ℕ, ◌+◌, ◌≤◌, ◌<◌, ◌≡◌, true, List, length, take}
use Rattle.rules.specs.Sound.{ascending}
use Rattle.numbers.specs.Seats.{in_use, ExactNumbers, Holds, ReleasesAcks}
use Rattle.parts.specs.Parts.{section, numbers_in}
use Rattle.parts.specs.Frames.{Only}

pub record Set (from count : ℕ) (w : List ℕ) : Type 0 where
  pub within : from + 512 ≤ 1296
  pub outside : count < from
  pub exact : ExactNumbers (numbers_in from count w)

-- the same of a count that is no word
pub record Lies (from n : ℕ) (w : List ℕ) : Type 0 where
  pub within : from + 512 ≤ 1296
  pub room : from + 512 ≤ length w
  pub few : n ≤ 512

-- the first n of them
abbrev pub firsts : ℕ → ℕ → List ℕ → List ℕ
firsts from n w = take n (section from 512 w)

-- a set that rises
pub record Rising (from count : ℕ) (w : List ℕ) : Type 0 where
  pub set : Set from count w
  pub rises : ascending (in_use (numbers_in from count w)) ≡ true

-- then the set is ns, and nothing else has changed
pub record Becomes (ns : List ℕ) (from count : ℕ) (w w' : List ℕ) : Type 0 where
  pub holds : Holds ns (numbers_in from count w')
  pub only : Only from count w w'

-- acks up to a number are listed, later ones stay, and nothing else has changed
pub record Releases (upto from count : ℕ) (w l : List ℕ) (n : ℕ) (w' l' : List ℕ) (r : ℕ) : Type 0 where
  pub released : ReleasesAcks upto (numbers_in from count w) l n (record { numbers = numbers_in from count w'; events = r }) l'
  pub only : Only from count w w'
