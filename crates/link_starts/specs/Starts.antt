-- The steps of a start on the parts of a session. Assumes nothing.
use Rattle.std.specs.Prelude.{ℕ, ◌+◌, ◌<◌, ◌≡◌, List, [], ◌∷◌, length, take}
use Rattle.rules.specs.declared.Policy.{Policy}
use Rattle.rules.specs.Lists.{Bytes}
use Rattle.starts.specs.declared.Reliable.{Reliable}
use Rattle.parts.specs.Parts.{at, section}

-- ---- what is written

-- the words 0 to 14
abbrev pub head : Reliable → ℕ → Policy → ℕ → List ℕ
head x n p j =
    x.message_number ∷ n ∷ x.remote_number ∷ x.remote_number ∷ 0 ∷ 0 ∷ 0 ∷ 0 ∷ 0 ∷ 0 ∷ p.gap ∷ p.messages ∷ p.bytes ∷ p.body ∷ j ∷ []

-- the bytes 768 to 775
abbrev pub middle : ℕ → List ℕ
middle d = d ∷ 0 ∷ 0 ∷ 0 ∷ 0 ∷ 0 ∷ 0 ∷ 0 ∷ []

-- these and the reject body
pub record BodyIn (d : ℕ) (reject : Bytes) (b b' : List ℕ) : Type 0 where
  pub size : length b' ≡ length b
  pub messages : (i : ℕ) → i < 768 → at b' i ≡ at b i
  pub codes : (i : ℕ) → i < 8 → at b' (768 + i) ≡ at (middle d) i
  pub body : take (length reject) (section 4872 64 b') ≡ reject
