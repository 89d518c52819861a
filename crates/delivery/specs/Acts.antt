-- The contracts of what a delivery is made of. Assumes nothing.
use Rattle.std.specs.Prelude.{ℕ, ◌+◌, ◌*◌, ◌≤◌, ◌≡◌, Bool, List, [], ◌∷◌, Option, Result}
use Rattle.stores.specs.Placed.{placed}
use Rattle.rules.specs.declared.HostStatus.{HostStatus}
use Rattle.rules.specs.declared.ReceiveMode.{ReceiveMode}
use Rattle.rules.specs.Lists.{Bytes}
use Rattle.rules.specs.State as R
use Rattle.rules.specs.Events.{message, listed}
use Rattle.rules.specs.Progress.{Progress, stays, ◌then◌, request}
use Rattle.rules.specs.Buffers.{flat}
use Rattle.rules.specs.Setup.{receive_proposal, reject_inbound}
use Rattle.rules.specs.Receiving.{available, deliverable, hand_over}
use Rattle.numbers.specs.declared.Numbers.{Numbers}
use Rattle.rules.specs.declared.Refusal.{Refusal}
use Rattle.events.specs.Written.{Books, books, final, ends, ended, stopped_by, reached}
use Rattle.delivery.specs.declared.Turn.{Turn}
use Rattle.delivery.specs.declared.Step.{Step}
use Rattle.delivery.specs.declared.Drained.{Drained}
use Rattle.delivery.specs.Turns.{during, Under, Ready, frame_of, step_at, ended_at}

-- ---- what is written

-- code 2 in the list, and the body in the delivery buffer
pub record HandedOver (number : ℕ) (body : Bytes) (l : List ℕ) (n : ℕ) (d : Bytes) (at : ℕ) (l' : List ℕ) (d' : Bytes) : Type 0 where
  pub words : (us : List R.Unacked) → l' ≡ placed l (4 * n) (flat (listed us at (message number body ∷ [])))
  pub bytes : d' ≡ placed d at body

-- ---- what changes a turn and lists nothing

pub record Proposes (t : Turn) (r : Result Turn Refusal) : Type 0 where
  pub does : (s : R.State) (fs : List R.Frame) (ws : List ℕ) → Under s t
      → receive_proposal (during s fs ws t) ≡ ended (stopped_by r) (during s fs ws (reached t r))
  pub under : (s : R.State) → Under s t → Under s (reached t r)
  pub remote : (reached t r).remote ≡ t.remote
  pub slow : (reached t r).clock.generation ≤ t.clock.generation + 1

pub record Rejects (t : Turn) (r : Turn) : Type 0 where
  pub does : (s : R.State) (fs : List R.Frame) (ws : List ℕ) → Under s t → reject_inbound (during s fs ws t) ≡ during s fs ws r
  pub under : (s : R.State) → Under s t → Under s r
  pub remote : r.remote ≡ t.remote
  pub slow : r.clock.generation ≤ t.clock.generation + 1

-- ---- what changes a turn and the books: one of the rule book's steps p, that hands at most len bytes over

pub record Did (p : R.State → Progress) (len : ℕ) (t : Turn) (b : Books) (r : Result Step Refusal) (l' : List ℕ) (d' : Bytes) : Type 0 where
  pub does : (s : R.State) (fs : List R.Frame) (ws : List ℕ) (us : List R.Unacked) → Under s t
      → final us (p (during s fs ws t)) b
      ≡ ends (stopped_by r) (during s fs ws (ended_at t b r).turn) (books l' (ended_at t b r).events d' (ended_at t b r).at)
  pub under : (s : R.State) → Under s t → Under s (ended_at t b r).turn
  pub remote : (ended_at t b r).turn.remote ≡ t.remote
  pub slow : (ended_at t b r).turn.clock.generation ≤ t.clock.generation + 1
  pub few : (ended_at t b r).events ≤ b.n + 1
  pub short : (ended_at t b r).at ≤ b.at + len

-- a reject
abbrev pub rejected : R.State → Progress
rejected s = stays (reject_inbound s) then request

-- the first proposal, in Proposal mode and in Rejection mode
abbrev pub taken : R.Frame → R.State → Progress
taken f s = receive_proposal s then hand_over f

abbrev pub answered : R.State → Progress
answered s = receive_proposal s then request

-- ready for a message of a mode
pub record ReadyIn (m : ReceiveMode) (t : Turn) (len listed n delivery at : ℕ) : Type 0 where
  pub mode : t.mode ≡ m
  pub ready : Ready t len listed n delivery at

-- ---- what is asked of a turn

-- a question of the rule book's
abbrev pub Answers : (R.State → Bool) → Turn → Bool → Type 0
Answers p t r = (s : R.State) (fs : List R.Frame) (ws : List ℕ) → Under s t → r ≡ p (during s fs ws t)

abbrev pub Available : HostStatus → Turn → Bool → Type 0
Available status t r = Answers (available status) t r

-- whatever the body is
abbrev pub Deliverable : ℕ → ℕ → Turn → Bool → Type 0
Deliverable n k t r = (b : Bytes) → Answers (deliverable (frame_of n k b)) t r

-- ---- a drain that is done

abbrev pub drained_by : Turn → Numbers → ℕ → ℕ → ℕ → Option Refusal → Drained
drained_by t w i n at z = record { step = step_at t n at; waiting = w; taken = i; stop = z }
