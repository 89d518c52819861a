-- The bytes in the field after the space at index end, and where that field ends. Assumes nothing.
use Rattle.std.specs.Prelude.{◌≡◌, ℕ, ◌+◌, List, ltb, length, if◌then◌else◌, Option, None}
use Rattle.text.specs.Fields.{place_of, field_of}
use Rattle.text.specs.Hex.{hex_of, fitting, count_of, over}
use Rattle.text.specs.Taken.{taken_of}

unfoldable pub bytes_after : List ℕ → ℕ → Option (List ℕ)
bytes_after s end = if ltb end (length s) then hex_of (field_of s (end + 1)) else None

-- what reading that field into a buffer answers, and leaves there: where it is wrong, all as it was
pub record Filling (s : List ℕ) (end : ℕ) (out : List ℕ) (r : Option (ℕ × ℕ)) (out' : List ℕ) : Type 0 where
  pub answer : r ≡ taken_of (count_of (fitting (length out) (bytes_after s end))) (place_of 32 s (end + 1))
  pub bytes : out' ≡ over (fitting (length out) (bytes_after s end)) out
