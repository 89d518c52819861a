-- Text put into a buffer. Assumes nothing.
use Rattle.std.specs.Prelude.{ℕ, ◌+◌, ◌/◌, ◌%◌, ◌≡◌, List, [], ◌∷◌, ltb, length, if◌then◌else◌}
use Rattle.stores.specs.Placed.{placed}

-- a buffer that had text up to index n, and has b after it, up to index r
pub record Put (out : List ℕ) (n : ℕ) (b : List ℕ) (r : ℕ) (out' : List ℕ) : Type 0 where
  pub next : r ≡ n + length b
  pub bytes : out' ≡ placed out n b

unfoldable pub glyph_of : ℕ → ℕ
glyph_of d = if ltb d 10 then (d + 48) else (d + 87)

abbrev pub hex_byte : ℕ → List ℕ
hex_byte b = glyph_of (b / 16) ∷ glyph_of (b % 16) ∷ []
