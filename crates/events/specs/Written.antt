-- The event list and the delivery buffer while a call writes them, and what a call under way comes to with them. Assumes nothing.
use Rattle.std.specs.Prelude.{ℕ, ◌+◌, ◌*◌, ◌≤◌, ◌≡◌, List, [], ◌∷◌, length, ltb, if◌then◌else◌, Option, None, Some, Result, Ok, Err}
use Rattle.stores.specs.Placed.{placed}
use Rattle.rules.specs.declared.Clock.{Clock}
use Rattle.rules.specs.Lists.{Bytes, packed}
use Rattle.rules.specs.State.{Unacked, State}
use Rattle.rules.specs.Events.{Event, commit_requested, handed, listed}
use Rattle.rules.specs.Progress.{Progress, goes, stops}
use Rattle.rules.specs.Buffers.{flat}
use Rattle.rules.specs.declared.Refusal.{Refusal}

-- ---- events listed one after the other, none of which hands a body over

-- The words of code 8 depend on us, the unacked messages that the call leaves.
pub record ListedIn (us : List Unacked) (es : List Event) (l : List ℕ) (n : ℕ) (l' : List ℕ) (n' : ℕ) : Type 0 where
  pub count : n' ≡ n + length es
  pub words : (at : ℕ) → l' ≡ placed l (4 * n) (flat (listed us at es))

-- events whose words do not depend on them
abbrev pub Listed : List Event → List ℕ → ℕ → List ℕ → ℕ → Type 0
Listed es l n l' n' = (us : List Unacked) → ListedIn us es l n l' n'

-- what `request` lists
abbrev pub asked : Clock → List Event
asked c = if ltb c.persisted c.generation then (commit_requested ∷ []) else []

-- ---- the list's words with n events so far, and the delivery bytes, filled up to at

pub record Books : Type 0 where
  pub list : List ℕ
  pub n : ℕ
  pub delivery : Bytes
  pub at : ℕ

abbrev pub books : List ℕ → ℕ → Bytes → ℕ → Books
books l n d at = record { list = l; n = n; delivery = d; at = at }

unfoldable pub write : List Unacked → List Event → Books → Books
write us es b =
    record {
      list = placed b.list (4 * b.n) (flat (listed us b.at es));
      n = b.n + length es;
      delivery = placed b.delivery b.at (packed handed es);
      at = b.at + length (packed handed es);
    }

-- the books are within the buffers
pub record Within (b : Books) : Type 0 where
  pub listed : 4 * b.n ≤ length b.list
  pub filled : b.at ≤ length b.delivery

-- ---- what a call under way comes to

pub record Final : Type 0 where
  pub stop : Option Refusal
  pub state : State
  pub books : Books

abbrev pub final : List Unacked → Progress → Books → Final
final us (goes s es) b = record { stop = None; state = s; books = write us es b }
final us (stops r s es) b = record { stop = Some r; state = s; books = write us es b }

abbrev pub ends : Option Refusal → State → Books → Final
ends x s b = record { stop = x; state = s; books = b }

-- a progress that lists nothing, by how it ends
abbrev pub ended : Option Refusal → State → Progress
ended None s = goes s []
ended (Some r) s = stops r s []

-- ---- a Rust `Result` whose error is a refusal

-- the refusal that it ends by, if it does
abbrev pub stopped_by : {A : Type 0} → Result A Refusal → Option Refusal
stopped_by (Ok x) = None
stopped_by (Err r) = Some r

-- what it comes to from x, which a refusal leaves
abbrev pub reached : {A : Type 0} → A → Result A Refusal → A
reached x (Ok y) = y
reached x (Err r) = x
