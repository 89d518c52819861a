-- One exported call as a host makes it: what the host holds and lends, what it finds afterwards, and that the two are as the contract of the
-- function says, the one that its `ensures` cites (docs/PROOFS.md, "The calls"). Assumes nothing.
use Rattle.std.specs.Prelude.{ℕ, ◌≡◌, List, []}
use Rattle.std.proofs.Math.Option.{Option}
use Rattle.rules.specs.declared.Policy.{Policy}
use Rattle.rules.specs.declared.Answer.{Answer}
use Rattle.rules.specs.declared.Answer.TheVariants.{Done}
use Rattle.rules.specs.Lists.{Bytes}
use Rattle.rules.specs.State.{Handoff}
use Rattle.rules.specs.Start.{Reliable}
use Rattle.rules.specs.Calls.{Call, sends, gets_data, gets_ack, gets_keepalive, is_ready, accepts, rejects, prepares_channel, commands, prepares, completes, connects, reports, fetches, retires, restores}
use Rattle.peer_session.specs.declared.SessionState.{SessionState}
use Rattle.peer_session.specs.Sound.{Full}
use Rattle.session.specs.declared.Returned.{Returned}
use Rattle.session.specs.declared.Told.{Told}
use Rattle.session.specs.Promise.{lent, Called, CalledWithList, CalledWithOutbound, CalledWithStores, CalledWithOutboundAlone, CalledWithStoresAlone, CalledAlone, ToldWithList, Answered}
use Rattle.starts.specs.declared.Reliable as Code
use Rattle.starts.specs.Started.{Started}
use Rattle.starts.specs.Records.{reliable_of}
use Rattle.fetches.specs.Fetched.{AnsweredWithOutbound}
use Rattle.restores.specs.declared.Handoff as Given
use Rattle.restores.specs.Restored.{handoff_given, Restored}
use Rattle.history.specs.Shown.{Shown, read_words}

-- ---- what a host has in hand

-- a session: its struct, whose arrays have their lengths, and its two stores
pub record Session : Type 0 where
  pub code : SessionState
  pub full : Full code
  pub outbound : Bytes
  pub queue : Bytes

-- what else is lent to a call: an event list and a delivery buffer, of any contents and any length (too short ones give refusal 1)
pub record Buffers : Type 0 where
  pub list : List ℕ
  pub delivery : Bytes

-- after a call: the session, what the call returned, and what those buffers hold
pub record Left : Type 0 where
  pub session : Session
  pub answer : Answer
  pub events : ℕ
  pub list : List ℕ
  pub delivery : Bytes

abbrev pub shown_by : Left → Shown
shown_by z = record { answer = z.answer; events = read_words z.events z.list; delivery = z.delivery; outbound = z.session.outbound }

-- ---- a start

-- "Both ends start Raw, at message number 1, remote 0, with nothing unacked, under any policies": any disposition and reject body, and two stores
pub record Opening : Type 0 where
  pub policy : Policy
  pub disposition : ℕ
  pub reject : Bytes
  pub outbound : Bytes
  pub queue : Bytes

-- `starts::start` gave this session
abbrev pub Starts : Opening → Session → Type 0
Starts a x =
    Started (record { message_number = 1; remote_number = 0; disposition = a.disposition }) [] [] [] a.policy a.reject a.outbound a.queue
    (record { session = x.code; answer = Done; events = 0 }) x.outbound x.queue

-- ---- the other calls, by what they are lent. What a call is not lent, or only to read, is as it was

-- only the answer is new
abbrev pub only_answers : Buffers → Session → Answer → Left
only_answers l x a = record { session = x; answer = a; events = 0; list = l.list; delivery = l.delivery }

-- what a call returned
abbrev returned : Left → Returned
returned z = record { session = z.session.code; answer = z.answer; events = z.events }

abbrev told : Left → Told
told z = record { answer = z.answer; events = z.events }

-- the event list and the delivery buffer, the struct and the two stores, before and after
module _ (c : Call) (l : Buffers) (x : Session) (z : Left) where
  abbrev a : List ℕ
  a = l.list

  abbrev d : Bytes
  d = l.delivery

  abbrev s : SessionState
  s = x.code

  abbrev o : Bytes
  o = x.outbound

  abbrev q : Bytes
  q = x.queue

  abbrev a' : List ℕ
  a' = z.list

  abbrev d' : Bytes
  d' = z.delivery

  abbrev o' : Bytes
  o' = z.session.outbound

  abbrev q' : Bytes
  q' = z.session.queue

  abbrev pub TakesAll : Type 0
  TakesAll = Called c s (lent a d o q) (returned z) (lent a' d' o' q')

  abbrev pub TakesListAndStores : Type 0
  TakesListAndStores = CalledWithStores c s a o q (returned z) a' o' q' × (d' ≡ d)

  abbrev pub TakesListAndOutbound : Type 0
  TakesListAndOutbound = CalledWithOutbound c s a o (returned z) a' o' × (d' ≡ d) × (q' ≡ q)

  abbrev pub TakesList : Type 0
  TakesList = CalledWithList c s a (returned z) a' × (d' ≡ d) × (o' ≡ o) × (q' ≡ q)

  abbrev pub TakesListToTell : Type 0
  TakesListToTell = ToldWithList c s a (told z) a' × (z.session ≡ x) × (d' ≡ d)

  abbrev pub TakesStores : Type 0
  TakesStores = CalledWithStoresAlone c s o q (returned z) o' q' × (a' ≡ a) × (d' ≡ d)

  abbrev pub TakesOutbound : Type 0
  TakesOutbound = CalledWithOutboundAlone c s o (returned z) o' × (a' ≡ a) × (d' ≡ d) × (q' ≡ q)

  abbrev pub TakesNothing : Type 0
  TakesNothing = CalledAlone c s (returned z) × (a' ≡ a) × (d' ≡ d) × (o' ≡ o) × (q' ≡ q)

  abbrev pub OnlyAnswers : Type 0
  OnlyAnswers = Answered c s z.answer × (z ≡ only_answers l x z.answer)

  -- of `fetches::find`, which takes the outbound store to read
  abbrev pub Finds : Type 0
  Finds = AnsweredWithOutbound c s o z.answer × (z ≡ only_answers l x z.answer)

-- `restores::restore`: the record comes with its three slices, the handoff with its body; here that one is as C gives it, a struct and a slice, as the
-- second half of its `ensures` has it
pub record Restores (r : Reliable) (h : Option Handoff) (l : Buffers) (x : Session) (z : Left) : Type 0 where
  pub given : Code.Reliable
  pub numbers : List ℕ
  pub lengths : List ℕ
  pub bodies : Bytes
  pub handoff : Given.Handoff
  pub body : Bytes
  pub record_is : reliable_of given numbers lengths bodies ≡ r
  pub handoff_is : handoff_given handoff body ≡ h
  pub does : Restored given numbers lengths bodies handoff body x.code x.outbound (returned z) z.session.outbound
  pub list : z.list ≡ l.list
  pub delivery : z.delivery ≡ l.delivery
  pub queue : z.session.queue ≡ x.queue

-- with these buffers, this call, made on this session, left that
abbrev pub Meets : Call → Buffers → Session → Left → Type 0
Meets (sends b) = TakesListAndOutbound (sends b)
Meets (gets_data status f) = TakesAll (gets_data status f)
Meets (gets_ack n) = TakesListAndStores (gets_ack n)
Meets gets_keepalive = TakesListToTell gets_keepalive
Meets (is_ready status mode) = TakesAll (is_ready status mode)
Meets (accepts terms b) = TakesOutbound (accepts terms b)
Meets rejects = TakesListAndOutbound rejects
Meets (prepares_channel terms) = TakesNothing (prepares_channel terms)
Meets (commands restoring c) = TakesListAndOutbound (commands restoring c)
Meets prepares = OnlyAnswers prepares
Meets (completes c persisted) = TakesList (completes c persisted)
Meets (connects event now forced) = TakesList (connects event now forced)
Meets (reports what n accepted) = TakesList (reports what n accepted)
Meets (fetches n) = Finds (fetches n)
Meets (retires retain) = TakesStores (retires retain)
Meets (restores r h) = Restores r h
