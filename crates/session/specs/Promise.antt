-- What every exported call promises: one equation with the rule book, for every session, buffer and argument. Assumes nothing.
use Rattle.std.specs.Prelude.{ℕ, ◌≤◌, ◌≡◌, List, length, if◌then◌else◌, Option, Some, None}
use Rattle.std.proofs.Math.Option as Book
use Rattle.std.proofs.Math.Option.{none, some}
use Rattle.rules.specs.declared.Answer.{Answer}
use Rattle.rules.specs.declared.Answer.TheVariants.{Refused}
use Rattle.rules.specs.declared.Refusal.{Refusal}
use Rattle.rules.specs.declared.Refusal.TheVariants.{ShortBuffer, UnknownCode, BadRecord}
use Rattle.rules.specs.Lists.{Bytes}
use Rattle.rules.specs.Limits.{outbound_bytes, queue_bytes}
use Rattle.rules.specs.State.{State}
use Rattle.rules.specs.Calls.{Call, step}
use Rattle.rules.specs.Queries.{terms_in}
use Rattle.rules.specs.declared.Setup.{Setup}
use Rattle.rules.specs.declared.Terms.{Terms}
use Rattle.rules.specs.Buffers.{Lent, taken_by, short, wrong_code, lent_after}
use Rattle.peer_session.specs.declared.SessionState.{SessionState}
use Rattle.peer_session.specs.View.{Held, held, encode, state_of}
use Rattle.peer_session.specs.Sound.{sound_of}
use Rattle.session.specs.declared.Returned.{Returned}
use Rattle.session.specs.declared.Told.{Told}

-- ---- what a caller finds after a call

pub record Exit : Type 0 where
  pub session : Held
  pub answer : Answer
  pub events : ℕ
  pub lent : Lent

abbrev pub exit : Held → Answer → ℕ → Lent → Exit
exit s a n l = record { session = s; answer = a; events = n; lent = l }

abbrev pub lent : List ℕ → Bytes → Bytes → Bytes → Lent
lent l d o q = record { list = l; delivery = d; outbound = o; queue = q }

-- ---- the promise

-- "A refusal returns its number, lists nothing and changes nothing"
abbrev pub unchanged : Refusal → SessionState → Lent → Exit
unchanged x s l = exit (held s) (Refused x) 0 l

-- the rule book's outcome for the state that session and stores hold
unfoldable pub follows : Call → State → Lent → Exit
follows c t l = exit (encode (step c t).state) (step c t).answer (length (step c t).events) (lent_after l c t)

-- 1 a short buffer, 2 a code outside its list, 3 a session that no calls leave; else what the rule book says
unfoldable pub promise : Call → SessionState → Lent → Exit
promise c s l =
    if short (taken_by c) l then unchanged ShortBuffer s l else
    if wrong_code c then unchanged UnknownCode s l else
    if sound_of s then follows c (state_of s l.outbound l.queue) l else
    unchanged BadRecord s l

abbrev pub Called : Call → SessionState → Lent → Returned → Lent → Type 0
Called c s l r l' = exit (held r.session) r.answer r.events l' ≡ promise c s l

-- ---- the same by the buffers that a call takes. Those that it does not take are whatever they are, at least as long as named: what the session's
-- bodies are depends on the stores

abbrev pub CalledWithList : Call → SessionState → List ℕ → Returned → List ℕ → Type 0
CalledWithList c s l r l' =
    (d o q : Bytes) → outbound_bytes ≤ length o → queue_bytes ≤ length q → Called c s (lent l d o q) r (lent l' d o q)

abbrev pub CalledWithOutbound : Call → SessionState → List ℕ → Bytes → Returned → List ℕ → Bytes → Type 0
CalledWithOutbound c s l o r l' o' = (d q : Bytes) → queue_bytes ≤ length q → Called c s (lent l d o q) r (lent l' d o' q)

abbrev pub CalledWithStores : Call → SessionState → List ℕ → Bytes → Bytes → Returned → List ℕ → Bytes → Bytes → Type 0
CalledWithStores c s l o q r l' o' q' = (d : Bytes) → Called c s (lent l d o q) r (lent l' d o' q')

-- of a call that lists nothing and takes the outbound store, both stores, or nothing
abbrev pub CalledWithOutboundAlone : Call → SessionState → Bytes → Returned → Bytes → Type 0
CalledWithOutboundAlone c s o r o' = (l : List ℕ) (d q : Bytes) → queue_bytes ≤ length q → Called c s (lent l d o q) r (lent l d o' q)

abbrev pub CalledWithStoresAlone : Call → SessionState → Bytes → Bytes → Returned → Bytes → Bytes → Type 0
CalledWithStoresAlone c s o q r o' q' = (l : List ℕ) (d : Bytes) → Called c s (lent l d o q) r (lent l d o' q')

abbrev pub CalledAlone : Call → SessionState → Returned → Type 0
CalledAlone c s r =
    (l : List ℕ) (d o q : Bytes) → outbound_bytes ≤ length o → queue_bytes ≤ length q → Called c s (lent l d o q) r (lent l d o q)

-- of a call that hands no session back: it is the one that it was given
abbrev pub ToldWithList : Call → SessionState → List ℕ → Told → List ℕ → Type 0
ToldWithList c s l r l' =
    (d o q : Bytes) → outbound_bytes ≤ length o → queue_bytes ≤ length q
    → exit (held s) r.answer r.events (lent l' d o q) ≡ promise c s (lent l d o q)

abbrev pub Answered : Call → SessionState → Answer → Type 0
Answered c s a =
    (l : List ℕ) (d o q : Bytes) → outbound_bytes ≤ length o → queue_bytes ≤ length q
    → exit (held s) a 0 (lent l d o q) ≡ promise c s (lent l d o q)

-- ---- a refusal that changes nothing, as a value

pub record Turned (s : SessionState) (x : Refusal) (r : Returned) : Type 0 where
  pub session : r.session ≡ s
  pub answer : r.answer ≡ Refused x
  pub events : r.events ≡ 0

-- ---- the terms of a session that waits

-- the rule book's option, as Rust's
abbrev pub option_of : {T : Type 0} → Book.Option T → Option T
option_of none = None
option_of (some x) = Some x

abbrev pub terms_in_session : Setup → Option Terms
terms_in_session setup = option_of (terms_in setup)
