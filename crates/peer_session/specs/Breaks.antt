-- The contract of `broken`. Assumes nothing.
use Rattle.std.specs.Prelude.{ℕ, ◌≡◌, Bool, true, [], length, if◌then◌else◌}
use Rattle.rules.specs.declared.ReceiveMode.{ReceiveMode}
use Rattle.rules.specs.Lists.{Bytes}
use Rattle.rules.specs.State.{is_channel}
use Rattle.rules.specs.Progress.{broken}
use Rattle.queue.specs.View.{Repacked}
use Rattle.peer_session.specs.declared.SessionState.{SessionState}
use Rattle.peer_session.specs.View.{state_of, Exact}

-- whether a session has failed after a refusal, by whether it had before
abbrev pub failed_in : ReceiveMode → Bool → Bool
failed_in mode before = if is_channel mode then true else before

-- the rule book's `broken`, whatever the outbound store holds; every byte of the queue store is settled
pub record Broken (s : SessionState) (q : Bytes) (r : SessionState) (q' : Bytes) : Type 0 where
  pub does : (o : Bytes) → state_of r o q' ≡ broken (state_of s o q)
  pub exact : (size : ℕ) → Exact s size (length q) → Exact r size (length q')
  pub cleared : Repacked s.queue q [] r.queue q'
  pub outbox : r.outbox ≡ s.outbox
