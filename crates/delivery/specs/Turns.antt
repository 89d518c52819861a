-- A call under way that delivers: the state that a turn stands for. Assumes nothing.
use Rattle.std.specs.Prelude.{ℕ, ◌+◌, ◌-◌, ◌*◌, ◌≤◌, ◌≡◌, Bool, true, false, not, List, [], ◌∷◌, ◌++◌, length, drop, Option, None, Some, Result}
use Rattle.rules.specs.declared.HostStatus.{HostStatus}
use Rattle.rules.specs.Lists.{Bytes, empty, kept, all, total, put, rising, itself}
use Rattle.rules.specs.State as R
use Rattle.rules.specs.State.{frame_number, frame_size}
use Rattle.rules.specs.Sending.{fresh}
use Rattle.rules.specs.Receiving.{up_to, other_than, consume, deliver, drain}
use Rattle.rules.specs.Sound.{at_most}
use Rattle.rules.specs.declared.Refusal.{Refusal}
use Rattle.events.specs.Written.{Books, books, final, ends, stopped_by, reached}
use Rattle.numbers.specs.declared.Numbers.{Numbers}
use Rattle.numbers.specs.Seats.{in_use, ExactNumbers}
use Rattle.queue.specs.declared.Queue.{Queue}
use Rattle.queue.specs.View.{frames_of, ExactQueue}
use Rattle.delivery.specs.declared.Turn.{Turn}
use Rattle.delivery.specs.declared.Step.{Step}
use Rattle.delivery.specs.declared.Frame as Lent
use Rattle.delivery.specs.declared.Drained.{Drained}

-- ---- what does not change while a call delivers: the state as it began

-- the unacked messages, with the rejection sent anew, or all dropped
abbrev pub acted : Bool → Bool → ℕ → Bytes → List R.Unacked → List R.Unacked
acted sent true next reject us = []
acted true false next reject us = us ++ (fresh next reject ∷ [])
acted false false next reject us = us

abbrev pub after_sending : Bool → ℕ → ℕ
after_sending true n = n + 1
after_sending false n = n

-- The state that a turn stands for, of a call that began at state s, with the frames that are queued and the acks that wait.
abbrev pub during : R.State → List R.Frame → List ℕ → Turn → R.State
during s fs ws t =
    record {
      outbox = record { next = after_sending t.sent s.outbox.next; unacked = acted t.sent t.dropped s.outbox.next s.fixed.reject s.outbox.unacked };
      inbox = record { remote = t.remote; released = s.inbox.released; queue = fs; waiting = ws; retry = s.inbox.retry };
      clock = t.clock;
      stage = record { disposition = t.disposition; setup = s.stage.setup; mode = s.stage.mode; handoff = s.stage.handoff; failed = s.stage.failed };
      fixed = s.fixed;
    }

-- the turn that a call begins with
abbrev pub begun : R.State → Turn
begun s =
    record {
      mode = s.stage.mode;
      failed = s.stage.failed;
      remote = s.inbox.remote;
      clock = s.clock;
      disposition = s.stage.disposition;
      next = s.outbox.next;
      unacked = not (empty s.outbox.unacked);
      sent = false;
      dropped = false;
    }

-- what of a turn does not change, and what its flags say of the state that it began at
pub record Under (s : R.State) (t : Turn) : Type 0 where
  pub mode : t.mode ≡ s.stage.mode
  pub failed : t.failed ≡ s.stage.failed
  pub next : t.next ≡ s.outbox.next
  pub unacked : t.unacked ≡ not (empty (acted t.sent t.dropped s.outbox.next s.fixed.reject s.outbox.unacked))
  -- a rejection is sent only where nothing is unacked
  pub alone : t.sent ≡ true → s.outbox.unacked ≡ []
  -- and nothing is sent after all was dropped
  pub inbound : t.dropped ≡ true → t.disposition ≡ 4 → ⊥
  pub reject : length s.fixed.reject ≤ 64

-- ---- the contracts

abbrev pub frame_of : ℕ → ℕ → Bytes → R.Frame
frame_of n k b = record { number = n; kind = k; body = b }

-- a message whose body lies in a lent buffer
abbrev pub lent_frame : Lent.Frame → R.Frame
lent_frame f = frame_of f.number f.kind f.body.now

-- a turn with n events and at delivery bytes so far
abbrev pub step_at : Turn → ℕ → ℕ → Step
step_at t n at = record { turn = t; events = n; at = at }

-- where a step from turn t and books b ends: one that was refused changed nothing
abbrev pub ended_at : Turn → Books → Result Step Refusal → Step
ended_at t b r = reached (step_at t b.n b.at) r

-- room for a delivery: two events and the body, and two raises of the generation
pub record Ready (t : Turn) (len listed n delivery at : ℕ) : Type 0 where
  pub slow : t.clock.generation + 2 ≤ 4294967295
  pub room : 4 * n + 8 ≤ listed
  pub bytes : at + len ≤ delivery

-- what a mode does with a message
pub record Consumed (f : R.Frame) (t : Turn) (b : Books) (r : Result Step Refusal) (l' : List ℕ) (d' : Bytes) : Type 0 where
  pub does : (s : R.State) (fs : List R.Frame) (ws : List ℕ) (us : List R.Unacked) → Under s t
      → final us (consume s.stage.mode f (during s fs ws t)) b
      ≡ ends (stopped_by r) (during s fs ws (ended_at t b r).turn) (books l' (ended_at t b r).events d' (ended_at t b r).at)
  pub under : (s : R.State) → Under s t → Under s (ended_at t b r).turn
  pub remote : (ended_at t b r).turn.remote ≡ t.remote
  pub slow : (ended_at t b r).turn.clock.generation ≤ t.clock.generation + 1
  pub few : (ended_at t b r).events ≤ b.n + 1
  pub short : (ended_at t b r).at ≤ b.at + length f.body

-- what a delivery leaves of the queue and of the acks that wait: one that was refused took nothing and added none
abbrev pub left_by : Option Refusal → ℕ → List R.Frame → List R.Frame
left_by None n fs = kept (other_than n) fs
left_by (Some r) n fs = fs

abbrev pub acked_by : Option Refusal → ℕ → List ℕ → List ℕ
acked_by None n ws = put itself n ws
acked_by (Some r) n ws = ws

pub record Delivered (f : R.Frame) (t : Turn) (b : Books) (r : Result Step Refusal) (l' : List ℕ) (d' : Bytes) : Type 0 where
  pub does : (s : R.State) (fs : List R.Frame) (ws : List ℕ) (us : List R.Unacked) → Under s t
      → final us (deliver f (during s fs ws t)) b
      ≡ ends (stopped_by r) (during s (left_by (stopped_by r) f.number fs) (acked_by (stopped_by r) f.number ws) (ended_at t b r).turn)
      (books l' (ended_at t b r).events d' (ended_at t b r).at)
  pub under : (s : R.State) → Under s t → Under s (ended_at t b r).turn
  pub remote : stopped_by r ≡ None → (ended_at t b r).turn.remote ≡ f.number
  pub slow : (ended_at t b r).turn.clock.generation ≤ t.clock.generation + 2
  pub few : (ended_at t b r).events ≤ b.n + 2
  pub short : (ended_at t b r).at ≤ b.at + length f.body

-- ---- the drain, of the frames from index i of a queue on

-- frames rise above remote, acks up to it; there is room for all of them
pub record Draining (t : Turn) (w : Numbers) (x : Queue) (i : ℕ) (q : Bytes) (b : Books) : Type 0 where
  pub exact : ExactQueue x (length q)
  pub waits : ExactNumbers w
  pub within : i ≤ x.count
  pub order : rising frame_number t.remote (drop i (frames_of x q)) ≡ true
  pub last : all (up_to 18446744073709551614) (frames_of x q) ≡ true
  pub acks : rising itself 0 (in_use w) ≡ true
  pub behind : all (at_most t.remote) (in_use w) ≡ true
  pub many : w.count + (x.count - i) ≤ 512
  pub slow : t.clock.generation + 2 * (x.count - i) ≤ 4294967295
  pub room : 4 * (b.n + 2 * (x.count - i)) ≤ length b.list
  pub bytes : b.at + total frame_size (drop i (frames_of x q)) ≤ length b.delivery

pub record Drains (status : HostStatus) (t : Turn) (w : Numbers) (x : Queue) (i : ℕ) (q : Bytes) (b : Books) (r : Drained) (l' : List ℕ) (d' : Bytes) : Type 0 where
  pub does : (s : R.State) (us : List R.Unacked) → Under s t
      → final us (drain status (during s (drop i (frames_of x q)) (in_use w) t)) b
      ≡ ends r.stop (during s (drop r.taken (frames_of x q)) (in_use r.waiting) r.step.turn) (books l' r.step.events d' r.step.at)
  pub under : (s : R.State) → Under s t → Under s r.step.turn
  pub waits : ExactNumbers r.waiting
  pub within : r.taken ≤ x.count
  pub slow : r.step.turn.clock.generation ≤ t.clock.generation + 2 * (x.count - i)
  pub few : r.step.events ≤ b.n + 2 * (x.count - i)
  pub short : r.step.at ≤ b.at + total frame_size (drop i (frames_of x q))
