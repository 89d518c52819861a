-- The fields of a line, one space between two of them, and a line that is gathered from parts of the input. Assumes nothing.
use Rattle.std.specs.Prelude.{ℕ, ◌+◌, ◌-◌, ◌≤◌, ◌<◌, ◌≡◌, Bool, List, [], leb, ltb, eqb, length, take, drop, if◌then◌else◌, Option, Some, None, IfSome}
use Rattle.rules.specs.Lists.{before, same}
use Rattle.stores.specs.Placed.{placed}
use Rattle.text.specs.declared.Piece.{Piece}

abbrev pub one : ℕ → ℕ
one x = 1

abbrev pub is : ℕ → ℕ → Bool
is b x = eqb x b

-- the index of the first b from index at on, or the length
unfoldable pub place_of : ℕ → List ℕ → ℕ → ℕ
place_of b s at = at + before one (is b) (drop at s)

pub record Found (b : ℕ) (s : List ℕ) (at r : ℕ) : Type 0 where
  pub place : r ≡ place_of b s at
  pub from : at ≤ r
  pub within : r ≤ length s

-- the field that starts at index at
unfoldable pub field_of : List ℕ → ℕ → List ℕ
field_of s at = take (place_of 32 s at - at) (drop at s)

-- the field after the one that ends at index end is f, which ends at index e
pub record NextField (s : List ℕ) (end : ℕ) (f : List ℕ) (e : ℕ) : Type 0 where
  pub some : end < length s
  pub field : f ≡ field_of s (end + 1)
  pub place : e ≡ place_of 32 s (end + 1)

-- the elements from index a up to index e, none where the list ends before e
unfoldable pub between : {T : Type 0} → List T → ℕ → ℕ → List T
between s a e = if leb e (length s) then take (e - a) (drop a s) else []

-- the first field is the word w
unfoldable pub has_word : List ℕ → List ℕ → Bool
has_word s w = same (field_of s 0) w

-- a line of the size n in a buffer, with a part after it; one more than the buffer's size stands for a line that is too long
unfoldable pub grown_size : List ℕ → ℕ → List ℕ → ℕ
grown_size line n part = if leb (n + length part) (length line) then (n + length part) else (length line + 1)

unfoldable pub grown : List ℕ → ℕ → List ℕ → List ℕ
grown line n part = if leb (n + length part) (length line) then placed line n part else line

pub record Grown (line : List ℕ) (n : ℕ) (part : List ℕ) (r : ℕ) (line' : List ℕ) : Type 0 where
  pub size : r ≡ grown_size line n part
  pub bytes : line' ≡ grown line n part

-- a part of the input that ends at the first line end from index at on, or with the chunk
abbrev pub part_of : List ℕ → ℕ → List ℕ
part_of chunk at = take (place_of 10 chunk at - at) (drop at chunk)

-- where the input goes on after the line end of that part, if it has one
unfoldable pub next_of : List ℕ → ℕ → Option ℕ
next_of chunk at = if ltb (place_of 10 chunk at) (length chunk) then Some (place_of 10 chunk at + 1) else None

-- a line in a buffer after the part of a chunk from index at on: its size and bytes, and where the chunk goes on after its end
pub record Gathered (chunk : List ℕ) (at : ℕ) (buffer : List ℕ) (n : ℕ) (r : Piece) (line' : List ℕ) : Type 0 where
  pub line : Grown buffer n (part_of chunk at) r.size line'
  pub next : r.next ≡ next_of chunk at
  pub on : IfSome r.next (λ next. at < next)
  pub within : IfSome r.next (λ next. next ≤ length chunk)
