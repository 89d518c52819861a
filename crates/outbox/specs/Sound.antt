-- Whether an outbox is one that calls leave, by its records alone. Assumes nothing.
use Rattle.std.specs.Prelude.{ℕ, ◌-◌, Bool, ◌&&◌, leb, ltb}
use Rattle.stores.specs.Admitted.{admitted}
use Rattle.rules.specs.Limits.{messages_end, max_unacked, outbound_bytes}
use Rattle.outbox.specs.declared.Unacked.{Unacked}
use Rattle.outbox.specs.declared.Outbox.{Outbox}
use Rattle.outbox.specs.View.{num_u, len_u, used_u}

-- numbers strictly rising and below the next, bodies within the store
abbrev pub admits_unacked : ℕ → ℕ → ℕ → Unacked → Bool
admits_unacked next last sum u = ltb last u.number && (ltb u.number next && leb u.len (outbound_bytes - sum))

unfoldable pub sound_unacked : Outbox → Bool
sound_unacked x = admitted num_u len_u (admits_unacked x.next) 0 0 (used_u x)

unfoldable pub sound_outbox_of : Outbox → Bool
sound_outbox_of x = leb x.count max_unacked && (leb 1 x.next && (leb x.next messages_end && sound_unacked x))
