-- The contract of `allocate`. Assumes nothing.
use Rattle.std.specs.Prelude.{ℕ, ◌≡◌, length, Result, Ok, Err}
use Rattle.rules.specs.declared.Refusal.{Refusal}
use Rattle.rules.specs.Lists.{Bytes, packed}
use Rattle.rules.specs.State as R
use Rattle.rules.specs.State.{body_of, outbox_is, disposition_is}
use Rattle.rules.specs.Clock.{raised}
use Rattle.rules.specs.Sending.{allocate}
use Rattle.rules.specs.Buffers.{repacked}
use Rattle.events.specs.Written.{ended, stopped_by, reached}
use Rattle.outbox.specs.declared.Outbox.{Outbox}
use Rattle.outbox.specs.View.{end_u, unacked_of, outbox_of, ExactOutbox}

-- a state with an outbox grown by a message, which kept or changed the disposition; a refusal leaves it
abbrev pub grown : Result Outbox Refusal → Bytes → ℕ → R.State → R.State
grown (Ok y) o d t = raised (disposition_is d (outbox_is (outbox_of y o) t))
grown (Err r) o d t = t

-- a message with body b joins outbox x, whatever the rest of the state is; a refusal leaves outbox and store
pub record Allocates (b : Bytes) (x : Outbox) (o : Bytes) (r : Result Outbox Refusal) (o' : Bytes) : Type 0 where
  pub does : (t : R.State) (d : ℕ) → t.outbox ≡ outbox_of x o → allocate b d t ≡ ended (stopped_by r) (grown r o' d t)
  pub exact : ExactOutbox (reached x r) (length o')
  pub bytes : o' ≡ repacked (end_u x) (packed body_of (unacked_of (reached x r) o')) o
  pub size : length o' ≡ length o
  pub kept : (y : Refusal) → r ≡ Err y → o' ≡ o
