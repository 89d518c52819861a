-- What a turn leaves of the parts of a session: w, h, b are the words, halves and bytes before, and w', h', b' after. Assumes nothing.
use Rattle.std.specs.Prelude.{ℕ, ◌+◌, ◌*◌, ◌≤◌, ◌≡◌, true, List, [], eqb, Float, set, if◌then◌else◌}
use Rattle.rules.specs.declared.Clock.{Clock}
use Rattle.rules.specs.Lists.{Bytes}
use Rattle.outbox.specs.Steps.{Left}
use Rattle.queue.specs.View.{ExactQueue}
use Rattle.peer_session.specs.View.{reject_of}
use Rattle.delivery.specs.declared.Turn.{Turn}
use Rattle.draining.specs.Turns.{Settles, Advances}
use Rattle.parts.specs.Codes.{good_codes}
use Rattle.parts.specs.Parts.{Parts, at, outbox_in, queue_in, waiting_in, codes_in, reject_in, opened_of}
use Rattle.parts.specs.Frames.{Past}

-- ---- the outbox

-- all messages go
pub record Discards (w h b : List ℕ) (o : Bytes) (w' : List ℕ) (o' : Bytes) : Type 0 where
  pub left : Left (outbox_in w h b) o [] (outbox_in w' h b) o'
  pub words : Past 2 w w'

-- the outbox after a turn
pub record SettlesIn (t : Turn) (w h b : List ℕ) (o : Bytes) (w' h' b' : List ℕ) (o' : Bytes) : Type 0 where
  pub settles : Settles t (reject_of (reject_in w b)) (outbox_in w h b) o (outbox_in w' h' b') o'
  pub words : Past 2 w w'
  pub halves : Past 512 h h'
  pub bytes : Past 512 b b'

-- ---- the session

-- clock k is stored, all four of it
pub record Timed (k : Clock) (h h' : List ℕ) (c' : Float) : Type 0 where
  pub halves : h' ≡ set (set (set h 768 k.generation) 769 k.released) 770 k.persisted
  pub clock : c' ≡ k.last_replay_at

-- after a turn, but for the queue; codes stay good
pub record AdvancesIn (t : Turn) (p : Parts) (o : Bytes) (p' : Parts) (o' : Bytes) : Type 0 where
  pub advances : Advances t (waiting_in p.words) (opened_of p) o (opened_of p') o'
  pub codes : good_codes (codes_in p'.halves p'.bytes) ≡ true

-- ---- a refusal that empties the queue

-- in Channel mode the session has failed
abbrev pub failed_bytes : List ℕ → List ℕ
failed_bytes b = if eqb (at b 771) 2 then set b 772 1 else b

pub record Failing (w h b : List ℕ) (n listed size : ℕ) : Type 0 where
  pub queued : ExactQueue (queue_in w h b) size
  pub room : 4 * n + 4 ≤ listed
  pub codes : good_codes (codes_in h b) ≡ true
