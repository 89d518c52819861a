-- The frames that came too early: records in an array, bodies packed in the queue store. Assumes nothing.
use Rattle.std.specs.Prelude.{ℕ, ◌≤◌, ◌≡◌, List, length, take}
use Rattle.stores.specs.Packed.{cut}
use Rattle.rules.specs.Buffers.{repacked}
use Rattle.rules.specs.Lists.{Bytes, total, packed}
use Rattle.rules.specs.State as R
use Rattle.rules.specs.State.{frame_body}
use Rattle.queue.specs.declared.Queued.{Queued}
use Rattle.queue.specs.declared.Queue.{Queue}

-- ---- a record and its body are a frame

abbrev pub num_q : Queued → ℕ
num_q u = u.number

abbrev pub len_q : Queued → ℕ
len_q u = u.len

abbrev pub frame : Queued → Bytes → R.Frame
frame u b = record { number = u.number; kind = u.kind; body = b }

abbrev pub record_q : R.Frame → Queued
record_q f = record { number = f.number; len = length f.body; kind = f.kind }

abbrev pub blank_q : Queued
blank_q = record { number = 0; len = 0; kind = 0 }

-- ---- what a queue and a store hold: entries past the count are no part of it

abbrev pub used_q : Queue → List Queued
used_q x = take x.count x.records

unfoldable pub frames_of : Queue → Bytes → List R.Frame
frames_of x q = cut len_q frame (used_q x) q

-- where the bodies end
abbrev pub end_q : Queue → ℕ
end_q x = total len_q (used_q x)

-- what makes the view exact: the count within the array, the bodies within the store
pub record ExactQueue (x : Queue) (size : ℕ) : Type 0 where
  pub full : length x.records ≡ 256
  pub few : x.count ≤ 256
  pub small : end_q x ≤ 32768
  pub room : 32768 ≤ size

-- Frames fs are left of queue x and store q: in the array, and every byte of the store, bodies from 0, then 0 up to where bodies ended before, then
-- the bytes as they were.
pub record Repacked (x : Queue) (q : Bytes) (fs : List R.Frame) (r : Queue) (q' : Bytes) : Type 0 where
  pub frames : frames_of r q' ≡ fs
  pub exact : ExactQueue r (length q')
  pub bytes : q' ≡ repacked (end_q x) (packed frame_body fs) q
  pub size : length q' ≡ length q
