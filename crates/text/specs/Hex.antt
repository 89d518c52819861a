-- Bytes as text: two hex digits each, in lower case, and `-` for none. Assumes nothing.
use Rattle.std.specs.Prelude.{ℕ, ◌+◌, ◌*◌, ◌%◌, ◌≡◌, Bool, ◌&&◌, not, List, [], ◌∷◌, leb, eqb, length, get_or, if◌then◌else◌, Option, Some, None}
use Rattle.rules.specs.Lists.{all, empty}
use Rattle.stores.specs.Placed.{placed}
use Rattle.text.specs.Numbers.{digit_of, is_digit_byte}

unfoldable pub pairs : List ℕ → List ℕ
pairs [] = []
pairs (a ∷ []) = []
pairs (a ∷ b ∷ r) = (digit_of a * 16 + digit_of b) ∷ pairs r

-- `-`
unfoldable pub is_dash : List ℕ → Bool
is_dash s = eqb (length s) 1 && eqb (get_or s 0 0) 45

unfoldable pub is_pairs : List ℕ → Bool
is_pairs s = not (empty s) && (eqb (length s % 2) 0 && all (is_digit_byte 16) s)

unfoldable pub hex_of : List ℕ → Option (List ℕ)
hex_of s = if is_dash s then Some [] else if is_pairs s then Some (pairs s) else None

-- the bytes that are read into room bytes
unfoldable pub fitting : ℕ → Option (List ℕ) → Option (List ℕ)
fitting room None = None
fitting room (Some bs) = if leb (length bs) room then Some bs else None

abbrev pub count_of : Option (List ℕ) → Option ℕ
count_of None = None
count_of (Some bs) = Some (length bs)

abbrev pub over : Option (List ℕ) → List ℕ → List ℕ
over None out = out
over (Some bs) out = placed out 0 bs

-- what reading s into a buffer answers, and leaves there: where it is wrong, all as it was
pub record Decoded (s out : List ℕ) (r : Option ℕ) (out' : List ℕ) : Type 0 where
  pub answer : r ≡ count_of (fitting (length out) (hex_of s))
  pub bytes : out' ≡ over (fitting (length out) (hex_of s)) out
