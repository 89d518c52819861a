-- What the steps of a call end with. Assumes nothing.
use Rattle.std.specs.Prelude.{ℕ, ◌+◌, ◌*◌, ◌≤◌, ◌≡◌, true, List, [], ◌∷◌, length, drop, None, Some}
use Rattle.rules.specs.declared.HostStatus.{HostStatus}
use Rattle.rules.specs.declared.Refusal.{Refusal}
use Rattle.rules.specs.Lists.{Bytes, packed, all}
use Rattle.rules.specs.State as R
use Rattle.rules.specs.State.{body_of, frame_body}
use Rattle.rules.specs.Events.{failure}
use Rattle.rules.specs.Progress.{Progress, ◌then◌, broken, failing}
use Rattle.rules.specs.Receiving.{drain}
use Rattle.rules.specs.Sound.{sound, sound_frame}
use Rattle.rules.specs.Buffers.{repacked}
use Rattle.events.specs.Written.{Listed, Books, books, Within, final, ends}
use Rattle.outbox.specs.View.{end_u, unacked_of}
use Rattle.queue.specs.View.{end_q, frames_of, Repacked}
use Rattle.numbers.specs.declared.Numbers.{Numbers}
use Rattle.numbers.specs.Seats.{in_use, ExactNumbers}
use Rattle.peer_session.specs.declared.SessionState.{SessionState}
use Rattle.peer_session.specs.View.{state_of, fixed_of, Exact}
use Rattle.delivery.specs.declared.Turn.{Turn}
use Rattle.delivery.specs.Turns.{during, Under}
use Rattle.draining.specs.declared.Ended.{Ended}
use Rattle.draining.specs.Turns.{Settling}

-- the session that a call ends with, and every byte of the two stores: bodies reached in the queue store up to index reach
pub record Stores (s : SessionState) (reach : ℕ) (o q : Bytes) (r : SessionState) (o' q' : Bytes) : Type 0 where
  pub exact : Exact r (length o') (length q')
  pub outbound : o' ≡ repacked (end_u s.outbox) (packed body_of (unacked_of r.outbox o')) o
  pub queue : q' ≡ repacked reach (packed frame_body (frames_of r.queue q')) q

-- ---- a refusal that empties the queue

pub record Fails (x : Refusal) (s : SessionState) (l : List ℕ) (n : ℕ) (q : Bytes) (r : Ended) (l' : List ℕ) (q' : Bytes) : Type 0 where
  pub does : (o : Bytes) → state_of r.session o q' ≡ broken (state_of s o q)
  pub listed : Listed (failure x ∷ []) l n l' r.events
  pub stop : r.stop ≡ Some x
  pub exact : (size : ℕ) → Exact s size (length q) → Exact r.session size (length q')
  pub cleared : Repacked s.queue q [] r.session.queue q'
  pub outbox : r.session.outbox ≡ s.outbox

-- after a turn, whatever came to it
pub record Abandoning (t : Turn) (w : Numbers) (s : SessionState) (n listed : ℕ) (outbound queue : ℕ) : Type 0 where
  pub settling : Settling t s.reject s.outbox outbound
  pub exact : Exact s outbound queue
  pub waits : ExactNumbers w
  pub room : 4 * n + 4 ≤ listed

pub record Abandons (x : Refusal) (t : Turn) (w : Numbers) (s : SessionState) (l : List ℕ) (n : ℕ) (o q : Bytes) (r : Ended) (l' : List ℕ) (o' q' : Bytes) : Type 0 where
  pub does : (us : List R.Unacked) (p : Progress) (b : Books) (gs : List R.Frame) (d : Bytes) (at : ℕ) → Within b
      → final us p b ≡ ends (Some x) (during (state_of s o q) gs (in_use w) t) (books l n d at)
      → final us (failing p) b ≡ ends r.stop (state_of r.session o' q') (books l' r.events d at)
  pub stores : Stores s (end_q s.queue) o q r.session o' q'

-- ---- the drain, and the end of a call

-- A sound state with its books, in the middle of a call: room for the drain is left.
pub record Carrying (t : Turn) (w : Numbers) (from : ℕ) (s : SessionState) (l : List ℕ) (n : ℕ) (d : Bytes) (at : ℕ) (o q : Bytes) : Type 0 where
  pub exact : Exact s (length o) (length q)
  pub under : Under (state_of s o q) t
  pub good : sound (during (state_of s o q) (drop from (frames_of s.queue q)) (in_use w) t) ≡ true
  pub frames : all (sound_frame (fixed_of s)) (frames_of s.queue q) ≡ true
  pub waits : ExactNumbers w
  pub within : from ≤ s.queue.count
  pub slow : t.clock.generation ≤ 4294966002
  pub few : n ≤ 3
  pub short : at ≤ 16384
  pub listed : 4096 ≤ length l
  pub room : 49152 ≤ length d

-- whatever came to that state goes on with the drain
pub record Carries (status : HostStatus) (t : Turn) (w : Numbers) (from : ℕ) (s : SessionState) (l : List ℕ) (n : ℕ) (d : Bytes) (at : ℕ) (o q : Bytes)
    (r : Ended) (l' : List ℕ) (d' o' q' : Bytes) : Type 0 where
  pub end : ℕ
  pub does : (us : List R.Unacked) (p : Progress) (b : Books) → Within b
      → final us p b ≡ ends None (during (state_of s o q) (drop from (frames_of s.queue q)) (in_use w) t) (books l n d at)
      → final us (failing (p then drain status)) b ≡ ends r.stop (state_of r.session o' q') (books l' r.events d' end)
  pub stores : Stores s (end_q s.queue) o q r.session o' q'
