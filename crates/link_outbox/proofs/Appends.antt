-- One message more. Assumes nothing.
use mathlib.Core.Path.{◌≡◌, refl, sym, ◌∙◌, subst}
use mathlib.Core.Bool.{true, false}
use mathlib.Core.List.{List}
use Prim.Native.Nat.{ℕ, ◌+◌, ◌<◌}
use native.Mathlib.Omega.{arith}
use lib.ListN.{length, set, length-set}
use lib.Seq.{get_or-set_same, get_or-set_other}
use Rattle.stores.specs.Placed.{placed}
use Rattle.rules.specs.Lists.{Bytes}
use Rattle.outbox.specs.declared.Unacked.{Unacked}
use Rattle.outbox.specs.declared.Outbox.{Outbox}
use Rattle.outbox.specs.Steps.{Room, Appended}
use Rattle.outbox.proofs.Appends as Plain
use Rattle.parts.specs.Seats.{seats}
use Rattle.parts.specs.Parts.{at, unacked_at, outbox_in}
use Rattle.link_outbox.specs.Steps.{Joins}
use Rattle.link_outbox.proofs.Records.{twice_past, written}

module _ (w h b : List ℕ) (o body o' : Bytes) (p : ℕ) (lw : length w ≡ 1296) (lh : length h ≡ 772) (lb : length b ≡ 4936)
    (room : Room (outbox_in w h b) (length o) p (length body)) (e : o' ≡ placed o p body) where
  abbrev n : ℕ
  n = at w 1

  abbrev w' : List ℕ
  w' = set (set w 0 (at w 0 + 1)) 1 (n + 1)

  abbrev h' : List ℕ
  h' = set (set h n (at w 0)) (256 + n) (length body)

  abbrev b' : List ℕ
  b' = set (set b n 1) (256 + n) 0

  abbrev one : Unacked
  one = record { number = at w 0; len = length body; pending = true; unsent = false }

  few : n < 256
  few = room.few

  next_is : at w' 0 ≡ at w 0 + 1
  next_is = get_or-set_other (set w 0 (at w 0 + 1)) 1 0 (n + 1) 0 (λ e. omega arith) ∙ get_or-set_same w 0 (at w 0 + 1) 0 (omega arith)

  count_is : at w' 1 ≡ n + 1
  count_is = get_or-set_same (set w 0 (at w 0 + 1)) 1 (n + 1) 0 (omega (arith, length-set w 0 (at w 0 + 1)))

  outbox_is : outbox_in w' h' b' ≡ record { next = at w 0 + 1; records = set (seats 256 (unacked_at h b)) n one; count = n + 1 }
  outbox_is = rw (next_is, count_is, written h b n (at w 0) (length body) 1 0 few lh lb)

  pub joined : Joins w h b o body w' h' b' o'
  joined =
      record {
        appended = subst (λ (x : Outbox). Appended (outbox_in w h b) o body x o') (sym outbox_is) (Plain.appended (outbox_in w h b) o body o' p room e);
        words = refl;
        halves = twice_past h n (at w 0) (length body) few;
        bytes = twice_past b n 1 0 few;
      }
