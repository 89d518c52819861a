-- The session that C lends in parts: where each number lies, and what session the parts are. The indices are those of src/lib.rt. Assumes nothing.
use Rattle.std.specs.Prelude.{ℕ, ◌+◌, Bool, not, List, eqb, Float, take, drop, get_or}
use Rattle.rules.specs.declared.Clock.{Clock}
use Rattle.rules.specs.declared.Policy.{Policy}
use Rattle.numbers.specs.declared.Numbers.{Numbers}
use Rattle.outbox.specs.declared.Unacked.{Unacked}
use Rattle.outbox.specs.declared.Outbox.{Outbox}
use Rattle.queue.specs.declared.Queued.{Queued}
use Rattle.queue.specs.declared.Queue.{Queue}
use Rattle.peer_session.specs.declared.TerminalHandoff.{TerminalHandoff}
use Rattle.peer_session.specs.declared.RejectBody.{RejectBody}
use Rattle.peer_session.specs.declared.SessionState.{SessionState}
use Rattle.parts.specs.declared.StageCodes.{StageCodes}
use Rattle.parts.specs.Seats.{seats}
use Rattle.parts.specs.Codes.{stage_of}

pub record Parts : Type 0 where
  pub words : List ℕ
  pub halves : List ℕ
  pub bytes : List ℕ
  pub clock : Float

abbrev pub parts : List ℕ → List ℕ → List ℕ → Float → Parts
parts w h b t = record { words = w; halves = h; bytes = b; clock = t }

-- what stands at an index
abbrev pub at : List ℕ → ℕ → ℕ
at l i = get_or l i 0

-- a flag is 0, or anything else
abbrev pub flag : ℕ → Bool
flag x = not (eqb x 0)

-- the n elements from an index on
abbrev pub section : ℕ → ℕ → List ℕ → List ℕ
section from n l = take n (drop from l)

-- ---- the unacked messages

abbrev pub unacked_at : List ℕ → List ℕ → ℕ → Unacked
unacked_at h b i = record { number = at h i; len = at h (256 + i); pending = flag (at b i); unsent = flag (at b (256 + i)) }

abbrev pub outbox_in : List ℕ → List ℕ → List ℕ → Outbox
outbox_in w h b = record { next = at w 0; records = seats 256 (unacked_at h b); count = at w 1 }

-- ---- the queued frames

abbrev pub queued_at : List ℕ → List ℕ → List ℕ → ℕ → Queued
queued_at w h b i = record { number = at w (16 + i); len = at h (512 + i); kind = at b (512 + i) }

abbrev pub queue_in : List ℕ → List ℕ → List ℕ → Queue
queue_in w h b = record { records = seats 256 (queued_at w h b); count = at w 4 }

-- ---- acks that wait for a commit, and those to be sent again

abbrev pub numbers_in : ℕ → ℕ → List ℕ → Numbers
numbers_in from count w = record { values = section from 512 w; count = at w count }

abbrev pub waiting_in : List ℕ → Numbers
waiting_in w = numbers_in 272 5 w

abbrev pub retry_in : List ℕ → Numbers
retry_in w = numbers_in 784 6 w

-- ---- the rest

abbrev pub clock_in : List ℕ → Float → Clock
clock_in h t = record { last_replay_at = t; generation = at h 768; released = at h 769; persisted = at h 770 }

abbrev pub codes_in : List ℕ → List ℕ → StageCodes
codes_in h b =
    record {
      terms = at h 771;
      disposition = at b 768;
      setup = at b 769;
      initiator = flag (at b 770);
      mode = at b 771;
      failed = flag (at b 772);
    }

abbrev pub handoff_in : List ℕ → List ℕ → TerminalHandoff
handoff_in w b =
    record {
      body = section 776 4096 b;
      len = at w 7;
      id = at w 8;
      number = at w 9;
      sent = flag (at b 773);
      acknowledged = flag (at b 774);
      present = flag (at b 775);
    }

abbrev pub policy_in : List ℕ → Policy
policy_in w = record { gap = at w 10; messages = at w 11; bytes = at w 12; body = at w 13 }

abbrev pub reject_in : List ℕ → List ℕ → RejectBody
reject_in w b = record { bytes = section 4872 64 b; len = at w 14 }

-- ---- the session that the parts are

unfoldable pub opened_of : Parts → SessionState
opened_of p =
    record {
      outbox = outbox_in p.words p.halves p.bytes;
      remote = at p.words 2;
      released = at p.words 3;
      queue = queue_in p.words p.halves p.bytes;
      waiting = waiting_in p.words;
      retry = retry_in p.words;
      clock = clock_in p.halves p.clock;
      stage = stage_of (codes_in p.halves p.bytes);
      handoff = handoff_in p.words p.bytes;
      policy = policy_in p.words;
      reject = reject_in p.words p.bytes;
    }
