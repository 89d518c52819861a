-- A channel's command, and the contracts of its steps. Assumes nothing.
use Rattle.std.specs.Prelude.{ℕ, ◌≤◌, ◌≡◌, Bool, true, false, ◌&&◌, length, eqb, if◌then◌else◌}
use Rattle.std.specs.Prelude as Prelude
use Rattle.std.specs.Prelude.{Some, None}
use Rattle.std.proofs.Math.Option.{Option, none, some}
use Rattle.rules.specs.declared.Setup.TheVariants.{Started}
use Rattle.rules.specs.declared.Answer.TheVariants.{Done}
use Rattle.rules.specs.Lists.{Bytes, same}
use Rattle.rules.specs.State as R
use Rattle.rules.specs.Progress.{Progress, stays, ◌then◌, request, Outcome, answers}
use Rattle.rules.specs.Handoff.{Command, channel_command, validate}
use Rattle.outbox.specs.View.{ExactOutbox}
use Rattle.outbox.specs.Sound.{sound_outbox_of}
use Rattle.handoffs.specs.declared.Command as Lent
use Rattle.peer_session.specs.declared.TerminalHandoff.{TerminalHandoff}
use Rattle.peer_session.specs.declared.SessionState.{SessionState}
use Rattle.setup.specs.Steps.{Ready, staged}
use Rattle.restores.specs.Steps.{Handed}

-- a command whose body lies in a lent buffer
abbrev pub lent_command : Lent.Command → Command
lent_command c = record { id = c.id; body = c.body.now }

-- the Rust's `Option<TerminalCommand>`, as a call gets it
abbrev pub command_in : Prelude.Option Lent.Command → Option Command
command_in None = none
command_in (Some c) = some (lent_command c)

-- as C gives it, in its parts
abbrev pub command_of : Bool → ℕ → Bytes → Option Command
command_of present id b = if present then some (record { id = id; body = b }) else none

-- the session in which a command is carried out
abbrev pub starting_in : Bool → SessionState → SessionState
starting_in true s = staged s.stage.disposition Started s
starting_in false s = s

-- the rule there
abbrev pub commanding : Bool → Option Command → R.State → Outcome
commanding restoring c t = answers Done (channel_command restoring c t.stage.handoff t then request)

-- a new handoff
abbrev pub HandsOver : ℕ → ℕ → Bytes → TerminalHandoff → Type 0
HandsOver id number b = Handed (some (record { id = id; number = number; body = b; sent = false; acknowledged = false }))

abbrev pub carries_body : ℕ → Bytes → R.Unacked → Bool
carries_body n b u = eqb u.number n && same u.body b

-- a session with no handoff, and a body that it takes
pub record Vacant (s : SessionState) (size n : ℕ) : Type 0 where
  pub ready : Ready s size
  pub absent : s.handoff.present ≡ false
  pub short : n ≤ 4096

-- a session with a handoff
pub record Holding (s : SessionState) (size : ℕ) : Type 0 where
  pub sound : sound_outbox_of s.outbox ≡ true
  pub exact : ExactOutbox s.outbox size
  pub within : s.handoff.len ≤ length s.handoff.body
  pub present : s.handoff.present ≡ true

-- a handoff that is there is validated
abbrev pub validating_of : Option R.Handoff → R.State → Progress
validating_of none t = stays t
validating_of (some h) t = validate h t

abbrev pub validating : R.State → Outcome
validating t = answers Done (validating_of t.stage.handoff t then request)
