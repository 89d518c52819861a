-- The queued frames in place: where their bodies end, and what becomes of them. Assumes nothing.
use Rattle.std.specs.Prelude.{ℕ, ◌+◌, ◌≤◌, ◌<◌, ◌≡◌, List}
use Rattle.rules.specs.Lists.{Bytes, total, itself}
use Rattle.rules.specs.State as R
use Rattle.queue.specs.View.{end_q, Repacked}
use Rattle.queue.specs.Steps.{Enters}
use Rattle.parts.specs.Seats.{seats}
use Rattle.parts.specs.Parts.{at, queue_in}
use Rattle.link_queue.specs.Frames.{OnlyQueue}

-- the sum of the first n lengths of queued frames
abbrev pub bodies : List ℕ → ℕ → ℕ
bodies h n = total itself (seats n (λ i. at h (512 + i)))

pub record Summing (h : List ℕ) (n : ℕ) : Type 0 where
  pub few : n ≤ 256
  pub small : bodies h n ≤ 32768

-- the last queued number is the highest
pub record Topped (w : List ℕ) : Type 0 where
  pub few : at w 4 ≤ 256
  pub top : (i : ℕ) → i < at w 4 → at w (16 + i) ≤ at w (15 + at w 4)

-- all queued numbers are below n
pub record Below (n : ℕ) (w : List ℕ) : Type 0 where
  pub each : (i : ℕ) → i < at w 4 → at w (16 + i) < n

-- a frame of len bytes, whose number is not queued, enters those that rise, whose bodies end at an index of the store
pub record Entering (w h b : List ℕ) (q : Bytes) (end number len : ℕ) : Type 0 where
  pub enters : Enters (queue_in w h b) q number len
  pub topped : Topped w
  pub is : end ≡ end_q (queue_in w h b)

-- frames fs are left, in the arrays and in the store, and nothing else changes
pub record Requeued (fs : List R.Frame) (w h b : List ℕ) (q : Bytes) (w' h' b' : List ℕ) (q' : Bytes) : Type 0 where
  pub repacked : Repacked (queue_in w h b) q fs (queue_in w' h' b') q'
  pub only : OnlyQueue w h b w' h' b'
