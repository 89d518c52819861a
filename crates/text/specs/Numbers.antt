-- Numbers as text: the digits of a base up to 16, in lower case, the most significant first. Assumes nothing.
use Rattle.std.specs.Prelude.{ℕ, ◌+◌, ◌-◌, ◌*◌, Bool, ◌&&◌, List, [], ◌∷◌, leb, ltb, eqb, length, if◌then◌else◌, Option, Some, None}
use Rattle.rules.specs.Lists.{all, empty}

-- what a byte stands for as a digit, and 16 for a byte that is no digit
unfoldable pub digit_of : ℕ → ℕ
digit_of b =
    if leb 48 b && leb b 57 then (b - 48) else
    if leb 97 b && leb b 102 then (b - 87) else
    16

unfoldable pub is_digit_byte : ℕ → ℕ → Bool
is_digit_byte base b = ltb (digit_of b) base

-- what digits stand for that come after digits for n
unfoldable pub value : ℕ → ℕ → List ℕ → ℕ
value base n [] = n
value base n (b ∷ bs) = value base (n * base + digit_of b) bs

-- the same, where all are digits and a u64 holds it
unfoldable pub onward : ℕ → ℕ → List ℕ → Option ℕ
onward base n s = if all (is_digit_byte base) s && leb (value base n s) 18446744073709551615 then Some (value base n s) else None

unfoldable pub number_of : ℕ → List ℕ → Option ℕ
number_of base s = if empty s then None else onward base 0 s

abbrev pub decimal_of : List ℕ → Option ℕ
decimal_of s = number_of 10 s

-- a u64 as 16 hex digits
unfoldable pub hex16_of : List ℕ → Option ℕ
hex16_of s = if eqb (length s) 16 then number_of 16 s else None
