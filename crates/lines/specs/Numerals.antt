-- A number put into a buffer, in decimal and in hex. Assumes nothing.
use Rattle.std.specs.Prelude.{ℕ, ◌+◌, ◌-◌, ◌≤◌, List}
use Rattle.io.specs.Digits.{last_digits, IsDigitCount}
use Rattle.text.specs.Output.{Put}

-- from index n up to index r stand the digits of v, with no zeros in front
pub record Decimals (out : List ℕ) (n v r : ℕ) (out' : List ℕ) : Type 0 where
  pub short : r ≤ n + 20
  pub fewest : IsDigitCount 10 1 v (r - n)
  pub put : Put out n (last_digits 10 (r - n) v) r out'

-- the 16 hex digits of a u64
unfoldable pub hex16_text : ℕ → List ℕ
hex16_text v = last_digits 16 16 v
