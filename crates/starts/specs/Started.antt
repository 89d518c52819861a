-- What a start promises: one equation with the rule book, for every record and buffer. Assumes nothing.
use Rattle.std.specs.Prelude.{ℕ, ◌≡◌, Bool, true, false, ◌||◌, List, [], ◌∷◌, length, take, drop, ltb, if◌then◌else◌}
use Rattle.rules.specs.declared.Answer.TheVariants.{Done, Refused}
use Rattle.rules.specs.declared.Policy.{Policy}
use Rattle.rules.specs.declared.Refusal.TheVariants.{ShortBuffer}
use Rattle.rules.specs.Lists.{Bytes, total, itself}
use Rattle.rules.specs.State.{Message}
use Rattle.rules.specs.Start.{Reliable, Start, started, unstarted, start}
use Rattle.rules.specs.Buffers.{Lent, takes, short, new_stores}
use Rattle.peer_session.specs.View.{held, encode}
use Rattle.peer_session.specs.New.{nothing}
use Rattle.session.specs.declared.Returned.{Returned}
use Rattle.session.specs.Promise.{Exit, exit, lent}
use Rattle.starts.specs.declared.Reliable as Code

-- ---- the record's messages come as three lent slices: numbers, lengths, and the bodies one after the other

unfoldable pub messages_of : List ℕ → List ℕ → Bytes → List Message
messages_of [] ks b = []
messages_of (n ∷ ns) [] b = []
messages_of (n ∷ ns) (k ∷ ks) b = record { number = n; body = take k b } ∷ messages_of ns ks (drop k b)

-- refusal 1: fewer lengths than numbers, or fewer bytes than those lengths name; what is longer is not looked at
abbrev pub short_record : List ℕ → List ℕ → Bytes → Bool
short_record ns ks b = ltb (length ks) (length ns) || ltb (length b) (total itself (take (length ns) ks))

-- ---- the promise

-- a refused start hands out a session that every call refuses, and leaves the stores as they were
abbrev pub begins : Start → Lent → Exit
begins (started t) l = exit (encode t) Done 0 (new_stores l t)
begins (unstarted x) l = exit nothing (Refused x) 0 l

unfoldable pub start_promise : Reliable → Policy → Bytes → Bool → Lent → Exit
start_promise r policy reject short-of l =
    if short (takes false false true true) l || short-of then begins (unstarted ShortBuffer) l else
    begins (start r policy reject) l

-- the list and the delivery buffer, which a start does not take, are whatever they are
abbrev pub Started : Code.Reliable → List ℕ → List ℕ → Bytes → Policy → Bytes → Bytes → Bytes → Returned → Bytes → Bytes → Type 0
Started r ns ks b policy reject o q x o' q' =
    (l : List ℕ) (d : Bytes)
    → exit (held x.session) x.answer x.events (lent l d o' q')
    ≡ start_promise
    (record { next = r.message_number; remote = r.remote_number; disposition = r.disposition; unacked = messages_of ns ks b })
    policy reject (short_record ns ks b) (lent l d o q)
