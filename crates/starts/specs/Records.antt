-- A record whose messages come as lent slices: its checks, and what is made of it. The contracts of the parts of a start. Assumes nothing.
use Rattle.std.specs.Prelude.{ℕ, ◌≤◌, ◌<◌, ◌≡◌, Bool, true, false, List, [], ◌∷◌, length, take, get_or, ltb, Result, Ok, Err}
use Rattle.rules.specs.declared.Answer.TheVariants.{Refused}
use Rattle.rules.specs.declared.Policy.{Policy}
use Rattle.rules.specs.declared.Refusal.{Refusal}
use Rattle.rules.specs.declared.Refusal.TheVariants.{ShortBuffer}
use Rattle.rules.specs.Lists.{Bytes, total, itself}
use Rattle.rules.specs.Start.{Reliable, Start, started, unstarted, start, good_messages, good_record, new}
use Rattle.outbox.specs.declared.Unacked.{Unacked}
use Rattle.outbox.specs.declared.Outbox.{Outbox}
use Rattle.outbox.specs.View.{used_u}
use Rattle.peer_session.specs.declared.RejectBody.{RejectBody}
use Rattle.peer_session.specs.declared.SessionState.{SessionState}
use Rattle.peer_session.specs.View.{held, encode, reject_of}
use Rattle.peer_session.specs.New.{nothing}
use Rattle.session.specs.declared.Returned.{Returned}
use Rattle.starts.specs.declared.Reliable as Code
use Rattle.starts.specs.Started.{messages_of, short_record, Started}

-- the rule book's record
abbrev pub reliable_of : Code.Reliable → List ℕ → List ℕ → Bytes → Reliable
reliable_of r ns ks b =
    record { next = r.message_number; remote = r.remote_number; disposition = r.disposition; unacked = messages_of ns ks b }

-- ---- refusal 3 of a record, which does not look at the bodies' bytes

abbrev pub under : ℕ → ℕ → Bool
under next n = ltb n next

abbrev pub GoodMessages : ℕ → List ℕ → List ℕ → Bool → Type 0
GoodMessages next ns ks r = (b : Bytes) → short_record ns ks b ≡ false → r ≡ good_messages next (messages_of ns ks b)

abbrev pub GoodRecord : Code.Reliable → List ℕ → List ℕ → Bool → Type 0
GoodRecord x ns ks r = (b : Bytes) → short_record ns ks b ≡ false → r ≡ good_record (reliable_of x ns ks b)

-- ---- the records of the messages: neither pending nor unsent

unfoldable pub records_of : List ℕ → List ℕ → List Unacked
records_of [] ks = []
records_of (n ∷ ns) [] = []
records_of (n ∷ ns) (k ∷ ks) = record { number = n; len = k; pending = false; unsent = false } ∷ records_of ns ks

-- what a good record shows of its slices: the messages fit the array and the store, their numbers 32 bits
pub record Fitting (ns ks : List ℕ) : Type 0 where
  pub enough : length ns ≤ length ks
  pub few : length ns ≤ 256
  pub low : (i : ℕ) → i < length ns → get_or ns i 0 < 4294967296
  pub small : total itself (take (length ns) ks) ≤ 65536

pub record Recorded (next : ℕ) (ns ks : List ℕ) (r : Outbox) : Type 0 where
  pub next_is : r.next ≡ next
  pub count_is : r.count ≡ length ns
  pub used : used_u r ≡ records_of ns ks
  pub full : length r.records ≡ 256

-- ---- the parts of a start

pub record Rejecting (reject : Bytes) (r : RejectBody) : Type 0 where
  pub size : r.len ≡ length reject
  pub body : reject_of r ≡ reject
  pub full : length r.bytes ≡ 64

-- what a good record shows
pub record Beginning (x : Code.Reliable) (ns ks : List ℕ) (reject : Bytes) : Type 0 where
  pub fitting : Fitting ns ks
  pub known : x.disposition ≤ 4
  pub short : length reject ≤ 64

abbrev pub Begun : Code.Reliable → List ℕ → List ℕ → Policy → Bytes → SessionState → Type 0
Begun x ns ks policy reject r = (b : Bytes) → short_record ns ks b ≡ false → held r ≡ encode (new (reliable_of x ns ks b) policy reject)

-- by refusal 1 of the record, and by what the rule book says of the start
abbrev pub verdict_of : Bool → Start → Result (Unit {0}) Refusal
verdict_of true s = Err ShortBuffer
verdict_of false (started t) = Ok tt
verdict_of false (unstarted x) = Err x

pub record NotStarted (x : Refusal) (r : Returned) : Type 0 where
  pub session : held r.session ≡ nothing
  pub answer : r.answer ≡ Refused x
  pub events : r.events ≡ 0

-- ---- the tests in their order: the stores' lengths, and the record with what else a start takes

module _ (x : Code.Reliable) (ns ks : List ℕ) (bodies : Bytes) (policy : Policy) (reject : Bytes) (n m : ℕ) where
  pub record Judged : Type 0 where
    pub outbound : 65536 ≤ n
    pub queue : 32768 ≤ m
    pub good : verdict_of (short_record ns ks bodies) (start (reliable_of x ns ks bodies) policy reject) ≡ Ok tt

  pub record NotGood (z : Refusal) : Type 0 where
    pub call : (o q : Bytes) → length o ≡ n → length q ≡ m → (r : Returned) → NotStarted z r → Started x ns ks bodies policy reject o q r o q

  abbrev pub FoundStart : Result (Unit {0}) Refusal → Type 0
  FoundStart (Ok tt) = Judged
  FoundStart (Err z) = NotGood z
