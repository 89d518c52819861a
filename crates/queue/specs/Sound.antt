-- Whether a queue is one that calls leave, by its records alone. Assumes nothing.
use Rattle.std.specs.Prelude.{ℕ, ◌-◌, Bool, ◌&&◌, leb, ltb}
use Rattle.stores.specs.Admitted.{admitted}
use Rattle.rules.specs.declared.Policy.{Policy}
use Rattle.rules.specs.Limits.{last_remote, session_reject, max_queued_messages, max_queued_bytes, max_peer_body}
use Rattle.queue.specs.declared.Queued.{Queued}
use Rattle.queue.specs.declared.Queue.{Queue}
use Rattle.queue.specs.View.{num_q, len_q, used_q}

-- numbers strictly rising, each body and all of them within the policy
abbrev pub admits_queued : Policy → ℕ → ℕ → Queued → Bool
admits_queued p last sum u =
    ltb last u.number
    && (leb u.number last_remote && (leb u.kind session_reject && (leb u.len p.body && leb u.len (p.bytes - sum))))

unfoldable pub sound_queued : Policy → ℕ → Queue → Bool
sound_queued p remote x = admitted num_q len_q (admits_queued p) remote 0 (used_q x)

-- the policy within its limits, and the queue within the policy, above remote
unfoldable pub sound_queue : Policy → ℕ → Queue → Bool
sound_queue p remote x =
    leb p.messages max_queued_messages
    && (leb p.bytes max_queued_bytes
    && (leb p.body max_peer_body && (leb x.count p.messages && (leb remote last_remote && sound_queued p remote x))))
