-- A frame that goes in after those that are queued. Assumes nothing.
use Rattle.std.specs.Prelude.{ℕ, ◌+◌, ◌≡◌, List, [], ◌∷◌, ◌++◌, length, set}
use Rattle.rules.specs.Lists.{Bytes}
use Rattle.queue.specs.View.{frames_of, end_q, Repacked}
use Rattle.queue.specs.Steps.{arrived, Room}
use Rattle.parts.specs.Parts.{at, queue_in}

-- a frame of len bytes has room after those that are queued, whose bodies end at an index of the store
pub record Joins (w h b : List ℕ) (size end len : ℕ) : Type 0 where
  pub room : Room (queue_in w h b) size (at w 4) len
  pub is : end ≡ end_q (queue_in w h b)
  pub words : length w ≡ 1296
  pub halves : length h ≡ 772
  pub bytes : length b ≡ 4936

-- it goes in after them
pub record Joined (number kind : ℕ) (body : Bytes) (w h b : List ℕ) (q : Bytes) (w' h' b' : List ℕ) (q' : Bytes) : Type 0 where
  pub repacked : Repacked (queue_in w h b) q (frames_of (queue_in w h b) q ++ (arrived number kind body ∷ [])) (queue_in w' h' b') q'
  pub words : w' ≡ set (set w (16 + at w 4) number) 4 (at w 4 + 1)
  pub halves : h' ≡ set h (512 + at w 4) (length body)
  pub bytes : b' ≡ set b (512 + at w 4) kind
