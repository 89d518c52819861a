-- The unacked messages of a lent session: what a test of them counts, and what a search finds. Assumes nothing.
use Rattle.std.specs.Prelude.{ℕ, ◌+◌, ◌≤◌, ◌<◌, ◌≡◌, List, [], ◌∷◌, ltb, leb, if◌then◌else◌, Option, Some, None}
use Rattle.rules.specs.Lists.{total}
use Rattle.outbox.specs.declared.Unacked.{Unacked}
use Rattle.outbox.specs.View.{len_u}
use Rattle.outbox.specs.Records.{survives_u}
use Rattle.parts.specs.Seats.{seats}
use Rattle.parts.specs.Parts.{at, unacked_at}

-- 0 where a number is above the one before it
abbrev pub fall : ℕ → ℕ → ℕ
fall a b = if ltb a b then 0 else 1

-- how many numbers are not above the one before them
unfoldable pub falls : ℕ → List Unacked → ℕ
falls last [] = 0
falls last (u ∷ us) = fall last u.number + falls u.number us

-- n numbers follow one another from the first on
abbrev pub Steps : List ℕ → ℕ → ℕ → Type 0
Steps h first n = (i : ℕ) → i < n → at h i ≡ first + i

-- a number, or the greatest that 32 bits hold
abbrev pub low : ℕ → ℕ
low n = if leb n 4294967295 then n else 4294967295

-- 1 where a record stays at an ack
abbrev pub stayer : ℕ → Unacked → ℕ
stayer ack u = if survives_u ack u then 1 else 0

-- the lengths of n records of the halves h are those of bodies within the store; flags do not matter
pub record Bounded (h : List ℕ) (n : ℕ) : Type 0 where
  pub few : n ≤ 256
  pub small : (b : List ℕ) → total len_u (seats n (unacked_at h b)) ≤ 65536

-- the index of a number among the first n, if it is there
abbrev pub Sought : List ℕ → ℕ → ℕ → Option ℕ → Type 0
Sought h n number (Some i) = (i < n) × (at h i ≡ number)
Sought h n number None = (i : ℕ) → i < n → at h i ≡ number → ⊥
