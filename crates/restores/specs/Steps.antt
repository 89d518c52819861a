-- The contracts of the steps of a restore. Assumes nothing.
use Rattle.std.specs.Prelude.{ℕ, ◌≤◌, ◌≡◌, List, [], length, take}
use Rattle.std.proofs.Math.Option.{Option}
use Rattle.rules.specs.declared.Answer.TheVariants.{Done}
use Rattle.rules.specs.Lists.{Bytes, total, itself, packed}
use Rattle.rules.specs.State as R
use Rattle.rules.specs.State.{body_of}
use Rattle.rules.specs.Progress.{outcome, answers}
use Rattle.rules.specs.Start.{restored, restore_terminal}
use Rattle.rules.specs.Buffers.{repacked}
use Rattle.outbox.specs.View.{end_u, unacked_of, ExactOutbox}
use Rattle.peer_session.specs.declared.TerminalHandoff.{TerminalHandoff}
use Rattle.peer_session.specs.declared.SessionState.{SessionState}
use Rattle.peer_session.specs.View.{handoff_of, handoff_length, state_of, Exact}
use Rattle.session.specs.declared.Returned.{Returned}
use Rattle.starts.specs.declared.Reliable.{Reliable}
use Rattle.starts.specs.Records.{reliable_of, Fitting}

-- ---- the record

-- what a good record that is not short shows, with a session whose bodies lie within its store
pub record Taking (x : Reliable) (ns ks : List ℕ) (b : Bytes) (s : SessionState) (size : ℕ) : Type 0 where
  pub fitting : Fitting ns ks
  pub bytes : total itself (take (length ns) ks) ≤ length b
  pub known : x.disposition ≤ 4
  pub exact : ExactOutbox s.outbox size

-- the rule book's `restored`, whatever the queue store holds
pub record Takes (x : Reliable) (ns ks : List ℕ) (b : Bytes) (s : SessionState) (o : Bytes) (r : SessionState) (o' : Bytes) : Type 0 where
  pub does : (q : Bytes) → restored (reliable_of x ns ks b) (state_of s o q) ≡ state_of r o' q
  pub exact : (size : ℕ) → Exact s (length o) size → Exact r (length o') size
  pub stored : o' ≡ repacked (end_u s.outbox) (packed body_of (unacked_of r.outbox o')) o
  pub queue : r.queue ≡ s.queue
  pub handoff : r.handoff ≡ s.handoff

-- ---- the handoff

-- the handoff that there is, if there is one
abbrev pub held_in : TerminalHandoff → R.Handoff
held_in h = record { id = h.id; number = h.number; body = take h.len h.body; sent = h.sent; acknowledged = h.acknowledged }

-- the one given
pub record Handed (given : Option R.Handoff) (r : TerminalHandoff) : Type 0 where
  pub is : handoff_of r ≡ given
  pub full : length r.body ≡ 4096
  pub size : handoff_length r ≤ 4096

-- the rule book's `restore_terminal`, whatever the stores hold, which it leaves
pub record Ends (given : Option R.Handoff) (s : SessionState) (r : Returned) : Type 0 where
  pub does : (o q : Bytes) → answers Done (restore_terminal given (state_of s o q)) ≡ outcome (state_of r.session o q) r.answer []
  pub exact : (outbound queue : ℕ) → Exact s outbound queue → Exact r.session outbound queue
  pub outbox : r.session.outbox ≡ s.outbox
  pub queue : r.session.queue ≡ s.queue
  pub events : r.events ≡ 0
