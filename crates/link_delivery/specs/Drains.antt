-- The drain of the queue in place: the acks that wait grow in the words of a session. Assumes nothing.
use Rattle.std.specs.Prelude.{ℕ, ◌+◌, ◌≡◌, true, List, length, set, Option, Ok}
use Rattle.rules.specs.declared.HostStatus.{HostStatus}
use Rattle.rules.specs.declared.ReceiveMode.TheVariants.{Raw}
use Rattle.rules.specs.Lists.{Bytes}
use Rattle.rules.specs.declared.Refusal.{Refusal}
use Rattle.events.specs.Written.{Books}
use Rattle.delivery.specs.declared.Turn.{Turn}
use Rattle.delivery.specs.declared.Step.{Step}
use Rattle.delivery.specs.Turns.{frame_of, step_at, Delivered, Draining, Drains}
use Rattle.delivery.specs.Acts.{drained_by}
use Rattle.parts.specs.Parts.{queue_in, waiting_in}
use Rattle.parts.specs.Frames.{Only}
use Rattle.link_delivery.specs.declared.DrainEnd.{DrainEnd}

-- ---- the drain

-- the drain of the plain session, and only the acks that wait change
pub record DrainsIn (status : HostStatus) (t : Turn) (i : ℕ) (w h b : List ℕ) (q : Bytes) (k : Books) (r : DrainEnd) (w' l' : List ℕ) (d' : Bytes) : Type 0 where
  pub drains : Drains status t (waiting_in w) (queue_in w h b) i q k (drained_by r.step.turn (waiting_in w') r.taken r.step.events r.step.at r.stop) l' d'
  pub only : Only 272 5 w w'

-- ---- its end

abbrev pub drain_end : Step → ℕ → Option Refusal → DrainEnd
drain_end s i z = record { step = s; taken = i; stop = z }

-- the loop is left with k acks that wait, and frame i not taken
pub record Left (s : Step) (k i : ℕ) (z : Option Refusal) (w : List ℕ) (r : DrainEnd) (w' : List ℕ) : Type 0 where
  pub end : r ≡ drain_end s i z
  pub words : w' ≡ set w 5 k

-- ---- Raw mode, in which a delivery changes the remote number and the generation, and nothing else of a turn

abbrev pub reached : Turn → ℕ → ℕ → Turn
reached t n g =
    record {
      mode = t.mode;
      failed = t.failed;
      remote = n;
      clock =
          record {
            last_replay_at = t.clock.last_replay_at;
            generation = g;
            released = t.clock.released;
            persisted = t.clock.persisted;
          };
      disposition = t.disposition;
      next = t.next;
      unacked = t.unacked;
      sent = t.sent;
      dropped = t.dropped;
    }

-- a message is delivered, whatever the turn is that has this mode, this generation after it, and this persisted one
pub record HandedRaw (number generation persisted : ℕ) (body : Bytes) (b : Books) (n' : ℕ) (l' : List ℕ) (d' : Bytes) : Type 0 where
  pub delivered : (t : Turn) (kind : ℕ) → t.mode ≡ Raw → t.clock.generation + 1 ≡ generation → t.clock.persisted ≡ persisted
      → Delivered (frame_of number kind body) t b (Ok (step_at (reached t number generation) n' (b.at + length body))) l' d'

-- what is asked for a drain in Raw mode
pub record DrainingRaw (status : HostStatus) (t : Turn) (w h b : List ℕ) (i : ℕ) (q : Bytes) (k : Books) : Type 0 where
  pub draining : Draining t (waiting_in w) (queue_in w h b) i q k
  pub mode : t.mode ≡ Raw
  pub there : status.available ≡ true
