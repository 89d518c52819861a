-- What a fetch promises: the answer of the rule book, and the part of the outbound store that it names. Assumes nothing.
use Rattle.std.specs.Prelude.{ℕ, ◌≤◌, ◌-◌, ◌≡◌, List, [], length, take, drop, Option, Some, None}
use Rattle.rules.specs.declared.Answer.{Answer}
use Rattle.rules.specs.declared.Answer.TheVariants.{Done, Number, Flag, Prepared, Held, NotHeld, Refused}
use Rattle.rules.specs.Lists.{Bytes}
use Rattle.rules.specs.Limits.{queue_bytes}
use Rattle.rules.specs.Calls.{Call, fetches}
use Rattle.peer_session.specs.declared.SessionState.{SessionState}
use Rattle.peer_session.specs.View.{held}
use Rattle.session.specs.Promise.{exit, lent, promise}

-- of a call that takes the outbound store and changes nothing
abbrev pub AnsweredWithOutbound : Call → SessionState → Bytes → Answer → Type 0
AnsweredWithOutbound c s o a =
    (l : List ℕ) (d q : Bytes) → queue_bytes ≤ length q → exit (held s) a 0 (lent l d o q) ≡ promise c s (lent l d o q)

-- the part of a store that an answer names; a number that is not held, a short store and an unsound session have none
abbrev pub part_of : Answer → Bytes → Bytes
part_of Done o = []
part_of (Number n) o = []
part_of (Flag b) o = []
part_of (Prepared c) o = []
part_of (Held start len) o = take len (drop start o)
part_of NotHeld o = []
part_of (Refused x) o = []

-- the same part, and none where the answer names none
abbrev pub part_if : Answer → Bytes → Option Bytes
part_if Done o = None
part_if (Number n) o = None
part_if (Flag b) o = None
part_if (Prepared c) o = None
part_if (Held start len) o = Some (take len (drop start o))
part_if NotHeld o = None
part_if (Refused x) o = None

-- a part that an answer names lies in a store of n bytes
abbrev pub lies_within : ℕ → Answer → Type 0
lies_within n Done = Unit
lies_within n (Number k) = Unit
lies_within n (Flag b) = Unit
lies_within n (Prepared c) = Unit
lies_within n (Held start len) = (start ≤ n) × (len ≤ n - start)
lies_within n NotHeld = Unit
lies_within n (Refused x) = Unit

-- of `held`: the body, if it is held
abbrev pub FetchedIf : ℕ → SessionState → Bytes → Option Bytes → Type 0
FetchedIf n s o r = (l : List ℕ) (d q : Bytes) → queue_bytes ≤ length q → r ≡ part_if (promise (fetches n) s (lent l d o q)).answer o

-- of `fetch`: its bytes alone, empty where it is not held
abbrev pub Fetched : ℕ → SessionState → Bytes → Bytes → Type 0
Fetched n s o r = (l : List ℕ) (d q : Bytes) → queue_bytes ≤ length q → r ≡ part_of (promise (fetches n) s (lent l d o q)).answer o
