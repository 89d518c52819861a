-- The contracts of the steps of a report. Assumes nothing.
use Rattle.std.specs.Prelude.{ℕ, ◌≤◌, ◌≡◌, Bool, false, not, ◌&&◌, List, length, leb, eqb}
use Rattle.rules.specs.Lists.{Bytes, itself, has, put}
use Rattle.rules.specs.Limits.{max_retries}
use Rattle.rules.specs.State.{State}
use Rattle.rules.specs.Events.{Event}
use Rattle.rules.specs.Progress.{Outcome, outcome}
use Rattle.events.specs.Written.{Listed}
use Rattle.numbers.specs.declared.Numbers.{Numbers}
use Rattle.numbers.specs.Seats.{in_use}
use Rattle.peer_session.specs.declared.SessionState.{SessionState}
use Rattle.peer_session.specs.declared.TerminalHandoff.{TerminalHandoff}
use Rattle.peer_session.specs.View.{state_of, Exact}
use Rattle.session.specs.declared.Returned.{Returned}

-- A step that touches no store does to a session what a rule f does to its state.
pub record Reports (f : State → Outcome) (s : SessionState) (l : List ℕ) (r : Returned) (l' : List ℕ) : Type 0 where
  pub events : List Event
  pub does : (o q : Bytes) → Exact s (length o) (length q) → f (state_of s o q) ≡ outcome (state_of r.session o q) r.answer events
  pub exact : (o q : Bytes) → Exact s (length o) (length q) → Exact r.session (length o) (length q)
  pub listed : Listed events l 0 l' r.events

-- whether n is the number of the handoff's own frame
abbrev pub own_frame : ℕ → TerminalHandoff → Bool
own_frame n h = h.present && eqb h.number n

-- refusal 27, by the count
abbrev pub full_of : ℕ → Numbers → Bool
full_of n v = leb max_retries v.count && not (has n (in_use v))

-- what a retry asks of the retries
pub record MayRetry (n : ℕ) (v : Numbers) : Type 0 where
  pub few : v.count ≤ 512
  pub room : full_of n v ≡ false → length (put itself n (in_use v)) ≤ 512
