-- A sweep over the records, which drops some and moves the others down: what it keeps from turn to turn. Assumes nothing.
use Rattle.std.specs.Prelude.{ℕ, ◌+◌, ◌≤◌, ◌≡◌, Bool, List, ◌++◌, length, take, drop, if◌then◌else◌}
use Rattle.std.proofs.Math.Seq.{slice}
use Rattle.stores.specs.Packed.{cut}
use Rattle.stores.specs.Placed.{placed}
use Rattle.rules.specs.Lists.{Bytes, kept, total}
use Rattle.rules.specs.State as R
use Rattle.rules.specs.Acks.{survives}
use Rattle.outbox.specs.declared.Unacked.{Unacked}
use Rattle.outbox.specs.View.{len_u, unacked}

-- the records, how many of them stay and how many were looked at, and where bodies go to and come from
pub record Sweep : Type 0 where
  pub records : List Unacked
  pub kept : ℕ
  pub next : ℕ
  pub to : ℕ
  pub from : ℕ

-- a body moves down if its record stays
pub record Lowers (stays : Bool) (to from n : ℕ) (s s' : Bytes) (r : ℕ) : Type 0 where
  pub store : s' ≡ (if stays then placed s to (take n (drop from s)) else s)
  pub end : r ≡ (if stays then to + n else to)

-- the records that stay so far, and those still to be looked at
abbrev pub stay : Sweep → List Unacked
stay w = take w.kept w.records

abbrev pub todo : Sweep → ℕ → List Unacked
todo w count = slice w.next count w.records

-- where the bodies ended before the sweep
abbrev pub ends : Sweep → ℕ → ℕ
ends w count = w.from + total len_u (todo w count)

-- the messages that are left once the sweep is done
unfoldable pub left : ℕ → ℕ → Sweep → Bytes → List R.Unacked
left ack count w s = cut len_u unacked (stay w) s ++ kept (survives ack) (cut len_u unacked (todo w count) (drop w.from s))

pub record Sweeping (w : Sweep) (count size : ℕ) : Type 0 where
  pub full : length w.records ≡ 256
  pub few : count ≤ 256
  pub order : w.kept ≤ w.next
  pub within : w.next ≤ count
  pub front : total len_u (stay w) ≡ w.to
  pub down : w.to ≤ w.from
  pub room : ends w count ≤ size

-- a turn leaves the messages that the sweep ends with, and the bytes past the bodies, as they are
pub record Swept (ack count : ℕ) (w : Sweep) (s : Bytes) (r : Sweep) (s' : Bytes) : Type 0 where
  pub sweeping : Sweeping r count (length s')
  pub step : r.next ≡ w.next + 1
  pub same : left ack count r s' ≡ left ack count w s
  pub ending : ends r count ≡ ends w count
  pub past : drop (ends w count) s' ≡ drop (ends w count) s
