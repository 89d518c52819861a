-- What a restore promises: one equation with the rule book, for every session, buffer, record and handoff. Assumes nothing.
use Rattle.std.specs.Prelude as Prelude
use Rattle.std.specs.Prelude.{ℕ, ◌≤◌, ◌≡◌, Bool, true, false, List, [], length, if◌then◌else◌, Some, None}
use Rattle.std.proofs.Math.Option.{Option, none, some}
use Rattle.rules.specs.declared.Refusal.TheVariants.{ShortBuffer}
use Rattle.rules.specs.Lists.{Bytes}
use Rattle.rules.specs.Limits.{queue_bytes}
use Rattle.rules.specs.State as R
use Rattle.rules.specs.Start.{Reliable}
use Rattle.rules.specs.Calls.{restores}
use Rattle.rules.specs.Buffers.{Lent}
use Rattle.peer_session.specs.declared.SessionState.{SessionState}
use Rattle.peer_session.specs.View.{held}
use Rattle.session.specs.declared.Returned.{Returned}
use Rattle.session.specs.Promise.{Exit, exit, lent, unchanged, promise}
use Rattle.starts.specs.declared.Reliable as Starts
use Rattle.starts.specs.Started.{short_record}
use Rattle.starts.specs.Records.{reliable_of}
use Rattle.restores.specs.declared.Handoff.{Handoff}
use Rattle.restores.specs.declared.Given.{Given}

-- ---- the rule book's handoff

-- one whose body lies in a lent buffer
abbrev pub lent_handoff : Given → R.Handoff
lent_handoff h = record { id = h.id; number = h.number; body = h.body.now; sent = h.sent; acknowledged = h.acknowledged }

abbrev pub given_if : Prelude.Option Given → Option R.Handoff
given_if None = none
given_if (Some h) = some (lent_handoff h)

-- as C gives it
abbrev pub given_in : Handoff → Bytes → R.Handoff
given_in h b = record { id = h.id; number = h.number; body = b; sent = h.sent; acknowledged = h.acknowledged }

abbrev pub handoff_given : Handoff → Bytes → Option R.Handoff
handoff_given h b = if h.present then some (given_in h b) else none

-- one whose body lies in a lent buffer, as C gives it, and its body beside it
abbrev pub as_given : Prelude.Option Given → Handoff
as_given None = record { present = false; id = 0; number = 0; sent = false; acknowledged = false }
as_given (Some h) = record { present = true; id = h.id; number = h.number; sent = h.sent; acknowledged = h.acknowledged }

abbrev pub body_given : Prelude.Option Given → Bytes
body_given None = []
body_given (Some h) = h.body.now

-- ---- the promise

-- 1 is also for slices that do not hold the record
unfoldable pub restore_promise : Reliable → Option R.Handoff → Bool → SessionState → Lent → Exit
restore_promise r h short-of s l = if short-of then unchanged ShortBuffer s l else promise (restores r h) s l

-- the list, the delivery buffer and the queue store, which a restore does not take, are whatever they are, the store at least as long as named
abbrev pub RestoredBy : Starts.Reliable → List ℕ → List ℕ → Bytes → Option R.Handoff → SessionState → Bytes → Returned → Bytes → Type 0
RestoredBy r ns ks b handoff s o x o' =
    (l : List ℕ) (d q : Bytes) → queue_bytes ≤ length q
    → exit (held x.session) x.answer x.events (lent l d o' q)
    ≡ restore_promise (reliable_of r ns ks b) handoff (short_record ns ks b) s (lent l d o q)

-- the same of a handoff as C gives it
abbrev pub Restored : Starts.Reliable → List ℕ → List ℕ → Bytes → Handoff → Bytes → SessionState → Bytes → Returned → Bytes → Type 0
Restored r ns ks b handoff body = RestoredBy r ns ks b (handoff_given handoff body)
