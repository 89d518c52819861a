-- What becomes of data, by the checks past its kind and the generation, and what the stores reach by it. Assumes nothing.
use Rattle.std.specs.Prelude.{ℕ, ◌+◌, ◌≤◌, ◌<◌, ◌≡◌, Bool, true, false, not, ◌||◌, List, [], ◌∷◌, length, if◌then◌else◌, None}
use Rattle.rules.specs.declared.HostStatus.{HostStatus}
use Rattle.rules.specs.declared.Refusal.TheVariants.{BodyTooLong, GapTooWide, LastNumber, AcksFull}
use Rattle.rules.specs.declared.Answer.TheVariants.{Flag, Refused}
use Rattle.rules.specs.Lists.{Bytes, every, put, itself}
use Rattle.rules.specs.State.{Frame, State, Unacked}
use Rattle.rules.specs.Progress.{Progress, ◌then◌, request, halts, failing, Outcome, outcome, answers}
use Rattle.rules.specs.Receiving.{duplicate, queued, too_long, too_far, past_last, acks_full, queue_full, queue_overrun, terminal, drain, receive_again, at_once, from_ahead, receive_new}
use Rattle.rules.specs.Sound.{sound}
use Rattle.rules.specs.Buffers.{queue_end}
use Rattle.events.specs.Written.{books, final, ends}
use Rattle.numbers.specs.Seats.{in_use, ExactNumbers}
use Rattle.queue.specs.View.{ExactQueue}
use Rattle.peer_session.specs.declared.SessionState.{SessionState}
use Rattle.peer_session.specs.View.{state_of, Exact}
use Rattle.delivery.specs.declared.Turn.{Turn}
use Rattle.delivery.specs.Turns.{frame_of, during, Under}
use Rattle.receiving.specs.declared.Verdict.{Verdict}
use Rattle.receiving.specs.declared.Verdict.TheVariants.{Refuse, Fail, Again, New}
use Rattle.draining.specs.declared.Ended.{Ended}
use Rattle.draining.specs.Turns.{turn_of}
use Rattle.draining.specs.Ends.{Stores}

-- ---- the checks, in their order

abbrev pub verdict_of : Frame → State → Verdict
verdict_of f s =
    if too_long f s then Fail BodyTooLong else
    if too_far f s then Fail GapTooWide else
    if past_last f s then Refuse LastNumber else
    if acks_full f.number s then Refuse AcksFull else
    if duplicate f.number s then Again else
    New

-- what the rule book makes of them
abbrev pub again : ℕ → State → Progress
again n s = receive_again n s then request

abbrev pub anew : HostStatus → Frame → State → Progress
anew status f s = receive_new status f s then request then drain status

abbrev pub ruled : Verdict → HostStatus → Frame → State → Outcome
ruled (Refuse x) status f s = outcome s (Refused x) []
ruled (Fail x) status f s = answers (Flag true) (failing (halts x s))
ruled Again status f s = answers (Flag true) (failing (again f.number s))
ruled New status f s = answers (Flag true) (failing (anew status f s))

-- as far as bodies reach in the queue store
abbrev pub joins : HostStatus → Frame → State → Bool
joins status f s =
    every
    (not (at_once status f s) ∷ not (from_ahead status f s) ∷ not (queued f.number s) ∷ not (queue_full s) ∷ not (queue_overrun f s) ∷ [])

abbrev pub reach_new : HostStatus → Frame → State → ℕ
reach_new status f s = if joins status f s then queue_end s + length f.body else queue_end s

abbrev pub reached : Verdict → HostStatus → Frame → State → ℕ
reached (Refuse x) status f s = queue_end s
reached (Fail x) status f s = queue_end s
reached Again status f s = queue_end s
reached New status f s = reach_new status f s

-- ---- the contracts

abbrev pub Filled : ℕ → SessionState → Bool → Type 0
Filled n s r = (o q : Bytes) → ExactQueue s.queue (length q) → r ≡ acks_full n (state_of s o q)

abbrev pub Checked : ℕ → ℕ → SessionState → Verdict → Type 0
Checked n len s r = (o q b : Bytes) (k : ℕ) → ExactQueue s.queue (length q) → length b ≡ len → r ≡ verdict_of (frame_of n k b) (state_of s o q)

-- a duplicate
pub record Acknowledges (n : ℕ) (s : SessionState) (l : List ℕ) (r : Ended) (l' : List ℕ) : Type 0 where
  pub does : (o q d : Bytes) (us : List Unacked) → final us (again n (state_of s o q)) (books l 0 d 0) ≡ ends None (state_of r.session o q) (books l' r.events d 0)
  pub stop : r.stop ≡ None
  pub exact : (a b : ℕ) → Exact s a b → Exact r.session a b
  pub outbox : r.session.outbox ≡ s.outbox
  pub queue : r.session.queue ≡ s.queue

pub record Acknowledging (n : ℕ) (s : SessionState) (listed : ℕ) : Type 0 where
  pub waits : ExactNumbers s.waiting
  pub room : s.released < n → length (put itself n (in_use s.waiting)) ≤ 512
  pub list : 4096 ≤ listed

-- a frame that is no duplicate, and passed the checks
pub record NewFrame (f : Frame) (s : State) : Type 0 where
  pub kind : f.kind ≤ 2
  pub new : s.inbox.remote < f.number
  pub last : f.number ≤ 18446744073709551614
  pub short : length f.body ≤ s.fixed.policy.body
  pub room : acks_full f.number s ≡ false

-- ---- what data comes to, by the rule book's progress p

pub record Ran (p : Progress) (s : SessionState) (reach : ℕ) (l : List ℕ) (d o q : Bytes) (r : Ended) (l' : List ℕ) (d' o' q' : Bytes) : Type 0 where
  pub end : ℕ
  pub does : (us : List Unacked) → final us (failing p) (books l 0 d 0) ≡ ends r.stop (state_of r.session o' q') (books l' r.events d' end)
  pub stores : Stores s reach o q r.session o' q'

-- what data that is no duplicate finds, and what it asks of the buffers
pub record Receiving (f : Frame) (s : SessionState) (l : List ℕ) (d o q : Bytes) : Type 0 where
  pub exact : Exact s (length o) (length q)
  pub good : sound (state_of s o q) ≡ true
  pub frame : NewFrame f (state_of s o q)
  pub low : s.clock.generation < 4294966000
  pub listed : 4096 ≤ length l
  pub room : 49152 ≤ length d

-- with the turn that begins, and whether it is delivered now
pub record Taking (now : Bool) (status : HostStatus) (t : Turn) (f : Frame) (s : SessionState) (l : List ℕ) (d o q : Bytes) : Type 0 where
  pub receiving : Receiving f s l d o q
  pub turn : t ≡ turn_of s
  pub is : (at_once status f (state_of s o q) || from_ahead status f (state_of s o q)) ≡ now

abbrev pub Anew : HostStatus → Frame → SessionState → List ℕ → Bytes → Bytes → Bytes → Ended → List ℕ → Bytes → Bytes → Bytes → Type 0
Anew status f s l d o q r l' d' o' q' = Ran (anew status f (state_of s o q)) s (reach_new status f (state_of s o q)) l d o q r l' d' o' q'

abbrev pub Terminal : ℕ → Turn → Bool → Type 0
Terminal k t r = (n : ℕ) (b : Bytes) (s : State) (fs : List Frame) (ws : List ℕ) → Under s t → r ≡ terminal (frame_of n k b) (during s fs ws t)

abbrev pub Delivers : HostStatus → ℕ → ℕ → Turn → Bool → Type 0
Delivers status n k t r =
    (b : Bytes) (s : State) (fs : List Frame) (ws : List ℕ) → Under s t
    → r ≡ (at_once status (frame_of n k b) (during s fs ws t) || from_ahead status (frame_of n k b) (during s fs ws t))
