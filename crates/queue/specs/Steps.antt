-- What is asked of a queue, and what must hold for a frame to go in or a front to go. Assumes nothing.
use Rattle.std.specs.Prelude.{ℕ, ◌+◌, ◌≤◌, ◌<◌, ◌≡◌, false, List, ◌∷◌, ◌++◌, length, take, drop}
use Rattle.stores.specs.Fronts.{front}
use Rattle.rules.specs.Lists.{Bytes, any}
use Rattle.rules.specs.State as R
use Rattle.rules.specs.State.{is_frame}
use Rattle.rules.specs.Receiving.{up_to}
use Rattle.queue.specs.declared.Queue.{Queue}
use Rattle.queue.specs.View.{end_q, frames_of, ExactQueue}

abbrev pub arrived : ℕ → ℕ → Bytes → R.Frame
arrived n k b = record { number = n; kind = k; body = b }

-- k frames at the front have a number up to n, whatever the store holds
pub record Leads (n : ℕ) (x : Queue) (k : ℕ) : Type 0 where
  pub is : (q : Bytes) → k ≡ front (up_to n) (frames_of x q)
  pub within : k ≤ x.count

-- a frame of n bytes goes in at index k
pub record Room (x : Queue) (size k n : ℕ) : Type 0 where
  pub exact : ExactQueue x size
  pub within : k ≤ x.count
  pub free : x.count < 256
  pub short : end_q x + n ≤ 32768

-- a frame of n bytes whose number is not queued
pub record Enters (x : Queue) (q : Bytes) (number n : ℕ) : Type 0 where
  pub exact : ExactQueue x (length q)
  pub free : x.count < 256
  pub short : end_q x + n ≤ 32768
  pub new : any (is_frame number) (frames_of x q) ≡ false

abbrev pub with_at : ℕ → R.Frame → List R.Frame → List R.Frame
with_at k f fs = take k fs ++ (f ∷ drop k fs)
