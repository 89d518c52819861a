-- The unacked messages: records in an array, bodies packed in the outbound store. Assumes nothing.
use Rattle.std.specs.Prelude.{ℕ, ◌≤◌, ◌≡◌, false, List, length, take}
use Rattle.stores.specs.Packed.{cut}
use Rattle.rules.specs.Lists.{Bytes, total}
use Rattle.rules.specs.State as R
use Rattle.outbox.specs.declared.Unacked.{Unacked}
use Rattle.outbox.specs.declared.Outbox.{Outbox}

-- ---- a record and its body are a message

abbrev pub num_u : Unacked → ℕ
num_u u = u.number

abbrev pub len_u : Unacked → ℕ
len_u u = u.len

abbrev pub unacked : Unacked → Bytes → R.Unacked
unacked u b = record { number = u.number; body = b; pending = u.pending; unsent = u.unsent }

abbrev pub record_u : R.Unacked → Unacked
record_u m = record { number = m.number; len = length m.body; pending = m.pending; unsent = m.unsent }

abbrev pub blank_u : Unacked
blank_u = record { number = 0; len = 0; pending = false; unsent = false }

-- ---- what an outbox and a store hold: entries past the count are no part of it

abbrev pub used_u : Outbox → List Unacked
used_u x = take x.count x.records

unfoldable pub unacked_of : Outbox → Bytes → List R.Unacked
unacked_of x o = cut len_u unacked (used_u x) o

abbrev pub outbox_of : Outbox → Bytes → R.Outbox
outbox_of x o = record { next = x.next; unacked = unacked_of x o }

-- where the bodies end
abbrev pub end_u : Outbox → ℕ
end_u x = total len_u (used_u x)

-- what makes the view exact: the count within the array, the bodies within the store
pub record ExactOutbox (x : Outbox) (size : ℕ) : Type 0 where
  pub full : length x.records ≡ 256
  pub few : x.count ≤ 256
  pub small : end_u x ≤ 65536
  pub room : 65536 ≤ size
