-- The number in the field after the space at index end, and where that field ends. Assumes nothing.
use Rattle.std.specs.Prelude.{ℕ, ◌+◌, List, ltb, length, if◌then◌else◌, Option, Some, None}
use Rattle.text.specs.Fields.{place_of, field_of}

abbrev pub taken_of : Option ℕ → ℕ → Option (ℕ × ℕ)
taken_of (Some n) end = Some (n, end)
taken_of None end = None

unfoldable pub after : (List ℕ → Option ℕ) → List ℕ → ℕ → Option (ℕ × ℕ)
after read s end = if ltb end (length s) then taken_of (read (field_of s (end + 1))) (place_of 32 s (end + 1)) else None
