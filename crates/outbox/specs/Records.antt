-- What the rule book asks of a message and does to it, on its record, whatever its body is. Assumes nothing.
use Rattle.std.specs.Prelude.{ℕ, ◌+◌, Bool, true, false, not, ◌&&◌, ◌||◌, List, [], ◌∷◌, leb, ltb, eqb, if◌then◌else◌, Option, Some, None}
use Rattle.rules.specs.declared.Answer.{Answer}
use Rattle.rules.specs.declared.Answer.TheVariants.{Held, NotHeld}
use Rattle.outbox.specs.declared.Unacked.{Unacked}
use Rattle.outbox.specs.declared.Place.{Place}

-- ---- tests

abbrev pub below_u : ℕ → Unacked → Bool
below_u n u = ltb u.number n

abbrev pub survives_u : ℕ → Unacked → Bool
survives_u n u = ltb n u.number || u.pending || u.unsent

abbrev pub releases_u : ℕ → Unacked → Bool
releases_u n u = u.pending && leb u.number n

abbrev pub not_pending_u : Unacked → Bool
not_pending_u u = not u.pending

-- ---- changes

abbrev pub released_u : Bool → Unacked → Unacked
released_u b u = if b then record { number = u.number; len = u.len; pending = false; unsent = true } else u

abbrev pub release_u : ℕ → Unacked → Unacked
release_u n u = released_u (releases_u n u) u

abbrev pub sent_u : ℕ → Unacked → Unacked
sent_u n u = if eqb u.number n then record { number = u.number; len = u.len; pending = u.pending; unsent = false } else u

-- ---- where the body of a number lies, among records whose bodies start at index at

unfoldable pub place_u : ℕ → ℕ → List Unacked → Option Place
place_u n at [] = None
place_u n at (u ∷ us) = let t = place_u n (at + u.len) us in if eqb u.number n then Some (record { start = at; len = u.len }) else t

-- as the answer to a fetch
abbrev pub answer_of : Option Place → Answer
answer_of (Some p) = Held p.start p.len
answer_of None = NotHeld
