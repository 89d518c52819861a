-- The contracts of the functions that change the unacked messages where they lie: w, h, b are the words, halves and bytes before, and w', h', b' after.
-- Assumes nothing.
use Rattle.std.specs.Prelude.{ℕ, ◌+◌, ◌<◌, ◌≡◌, Bool, List, length, set, if◌then◌else◌}
use Rattle.std.proofs.Math.Seq.{slice}
use Rattle.rules.specs.Lists.{Bytes, kept, total}
use Rattle.rules.specs.Acks.{survives, sent}
use Rattle.outbox.specs.View.{unacked_of, used_u}
use Rattle.outbox.specs.Steps.{Appended, Left, Flagged, Releases}
use Rattle.parts.specs.Seats.{seats}
use Rattle.parts.specs.Parts.{at, unacked_at, outbox_in}
use Rattle.parts.specs.Frames.{Past}
use Rattle.link_outbox.specs.Tests.{stayer}

-- a message joins: o, o' are the store
pub record Joins (w h b : List ℕ) (o body : Bytes) (w' h' b' : List ℕ) (o' : Bytes) : Type 0 where
  pub appended : Appended (outbox_in w h b) o body (outbox_in w' h' b') o'
  pub words : w' ≡ set (set w 0 (at w 0 + 1)) 1 (at w 1 + 1)
  pub halves : Past 512 h h'
  pub bytes : Past 512 b b'

-- a send of a number was accepted
pub record Marks (number : ℕ) (w h b b' : List ℕ) : Type 0 where
  pub flagged : Flagged (sent number) (outbox_in w h b) (outbox_in w h b')
  pub bytes : Past 512 b b'

-- a commit releases the numbers up to upto: l, l' are the event list, of which n events are there before and n' after
pub record Frees (upto : ℕ) (w h b l : List ℕ) (n : ℕ) (b' l' : List ℕ) (n' : ℕ) : Type 0 where
  pub released : Releases upto (outbox_in w h b) l n (record { outbox = outbox_in w h b'; events = n' }) l'
  pub bytes : Past 512 b b'

-- an ack of the numbers up to ack
pub record Drops (ack : ℕ) (w h b : List ℕ) (o : Bytes) (w' h' b' : List ℕ) (o' : Bytes) : Type 0 where
  pub left : Left (outbox_in w h b) o (kept (survives ack) (unacked_of (outbox_in w h b) o)) (outbox_in w' h' b') o'
  pub words : w' ≡ set w 1 (length (kept (survives ack) (unacked_of (outbox_in w h b) o)))
  pub halves : Past 512 h h'
  pub bytes : Past 512 b b'

-- the first k records go at an ack, and the others stay: as many stay as there are others, and as many of the others
pub record Front (ack k : ℕ) (w h b : List ℕ) : Type 0 where
  pub all : k + total (stayer ack) (used_u (outbox_in w h b)) ≡ at w 1
  pub later : total (stayer ack) (slice k (at w 1) (seats 256 (unacked_at h b))) ≡ total (stayer ack) (used_u (outbox_in w h b))

-- both sections, of which n elements are in use after it, move down by k
pub record Shifted (k n : ℕ) (l l' : List ℕ) : Type 0 where
  pub front : (i : ℕ) → i < n → at l' i ≡ at l (k + i)
  pub back : (i : ℕ) → i < n → at l' (256 + i) ≡ at l (256 + (k + i))
  pub past : Past 512 l l'

-- flags of the record at index i as a release leaves them, where it goes
abbrev pub freed : Bool → ℕ → List ℕ → List ℕ
freed goes i b = if goes then set (set b i 0) (256 + i) 1 else b
