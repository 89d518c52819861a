-- Whether a session is one that calls leave, by its records alone; any other was altered by a host. Assumes nothing.
use Rattle.std.specs.Prelude.{ℕ, ◌-◌, ◌≡◌, Bool, ◌&&◌, length, leb}
use Rattle.rules.specs.Lists.{all, rising, itself}
use Rattle.rules.specs.Limits.{max_waiting_and_queued, max_retries, max_handoff, max_reject, outbound_reject}
use Rattle.rules.specs.Sound.{at_most, ascending}
use Rattle.numbers.specs.declared.Numbers.{Numbers}
use Rattle.numbers.specs.Seats.{in_use}
use Rattle.outbox.specs.Sound.{sound_outbox_of}
use Rattle.queue.specs.Sound.{sound_queue}
use Rattle.peer_session.specs.declared.Stage.{Stage}
use Rattle.peer_session.specs.declared.TerminalHandoff.{TerminalHandoff}
use Rattle.peer_session.specs.declared.RejectBody.{RejectBody}
use Rattle.peer_session.specs.declared.SessionState.{SessionState}
use Rattle.peer_session.specs.View.{handoff_length}

-- waiting acks rise up to remote, and with the queued frames are at most 512; retries rise
unfoldable pub sound_acks : Numbers → Numbers → ℕ → ℕ → Bool
sound_acks w r queued remote =
    leb w.count max_waiting_and_queued
    && (leb queued (max_waiting_and_queued - w.count)
    && (leb r.count max_retries && (rising itself 0 (in_use w) && (all (at_most remote) (in_use w) && ascending (in_use r)))))

-- by the disposition, and the lengths of handoff and reject body
unfoldable pub sound_sizes : ℕ → ℕ → ℕ → Bool
sound_sizes d h j = leb d outbound_reject && (leb h max_handoff && (leb 1 j && leb j max_reject))

abbrev pub sound_stage_of : Stage → TerminalHandoff → RejectBody → Bool
sound_stage_of g h j = sound_sizes g.disposition (handoff_length h) j.len

unfoldable pub sound_of : SessionState → Bool
sound_of s =
    sound_outbox_of s.outbox
    && (sound_queue s.policy s.remote s.queue
    && (sound_acks s.waiting s.retry s.queue.count s.remote && sound_stage_of s.stage s.handoff s.reject))

-- the lengths of a session's arrays
pub record Full (s : SessionState) : Type 0 where
  pub unacked : length s.outbox.records ≡ 256
  pub queue : length s.queue.records ≡ 256
  pub waiting : length s.waiting.values ≡ 512
  pub retry : length s.retry.values ≡ 512
  pub handoff : length s.handoff.body ≡ 4096
  pub reject : length s.reject.bytes ≡ 64

-- what `sound` finds
pub record Checked (s : SessionState) (r : Bool) : Type 0 where
  pub is : r ≡ sound_of s
  pub full : Full s
