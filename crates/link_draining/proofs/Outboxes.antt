-- The outbox after a turn, in place. Assumes nothing.
use Prim.Native.Nat.{ℕ, ◌+◌, ◌-◌, ◌≤◌}
use mathlib.Core.Path.{◌≡◌, sym, ap, ◌∙◌, subst}
use mathlib.Core.Bool.{true, false}
use mathlib.Core.List.{List, []}
use native.Mathlib.Omega.{arith}
use lib.ListN.{length, set, take, replicate}
use lib.Seq.{get_or-set_same, get_or-set_other, length-take-le}
use Rattle.stores.specs.Placed.{placed}
use Rattle.rules.specs.Lists.{Bytes, total}
use Rattle.outbox.specs.declared.Outbox.{Outbox}
use Rattle.outbox.specs.View.{len_u, ExactOutbox}
use Rattle.outbox.specs.Steps.{Left, Room}
use Rattle.outbox.proofs.Appends.{discarded}
use Rattle.peer_session.specs.declared.RejectBody.{RejectBody}
use Rattle.peer_session.specs.View.{reject_of}
use Rattle.delivery.specs.declared.Turn.{Turn}
use Rattle.draining.specs.Turns.{Settling, Settles}
use Rattle.draining.proofs.Settled.{settles_both, settles-sent, settles_dropped, settles-none, reject-room}
use Rattle.parts.specs.Seats.{seats}
use Rattle.parts.specs.Parts.{at, unacked_at, outbox_in, reject_in}
use Rattle.parts.specs.Frames.{Past}
use Rattle.link_outbox.specs.Steps.{Joins}
use Rattle.link_outbox.proofs.Records.{past_same, past-set}
use Rattle.link_outbox.proofs.Sounds.{ends_at}
use Rattle.link_draining.specs.Steps.{Discards, SettlesIn}

module _ (w h b : List ℕ) (lw : length w ≡ 1296) where
  renumbered : (n : ℕ) → outbox_in (set w 0 n) h b ≡ record { next = n; records = seats 256 (unacked_at h b); count = at w 1 }
  renumbered n =
      let x : at (set w 0 n) 0 ≡ n = get_or-set_same w 0 n 0 (omega arith) in
      let y : at (set w 0 n) 1 ≡ at w 1 = get_or-set_other w 0 1 n 0 (λ e. omega (arith, e)) in
      rw (x, y)

  emptied : outbox_in (set w 1 0) h b ≡ record { next = at w 0; records = seats 256 (unacked_at h b); count = 0 }
  emptied =
      let x : at (set w 1 0) 0 ≡ at w 0 = get_or-set_other w 1 0 0 0 (λ e. omega (arith, e)) in
      let y : at (set w 1 0) 1 ≡ 0 = get_or-set_same w 1 0 0 (omega arith) in
      rw (x, y)

  pub discards : (o o' : Bytes) → ExactOutbox (outbox_in w h b) (length o) → (end : ℕ) → end ≡ total len_u (seats (at w 1) (unacked_at h b))
      → o' ≡ placed o 0 (replicate (end - 0) 0) → Discards w h b o (set w 1 0) o'
  discards o o' exact end ee eo =
      record {
        left = subst (λ (x : Outbox). Left (outbox_in w h b) o [] x o') (sym emptied) (discarded (outbox_in w h b) o o' exact end (ee ∙ ends_at w h b exact.few) eo);
        words = past-set (past_same 2 w) 1 0 (omega arith);
      }

-- the reject body as it is read
module _ (w h b : List ℕ) (j : RejectBody) (e : j ≡ reject_in w b) (short : at w 14 ≤ length (reject_in w b).bytes) where
  pub reject-within : j.len ≤ length j.bytes
  reject-within = rw e short

  pub reject-length : length (take j.len j.bytes) ≡ j.len
  reject-length = length-take-le j.len j.bytes reject-within

  pub reject-fits : {n : ℕ} → Room (outbox_in w h b) n 0 (at w 14) → Room (outbox_in w h b) n 0 (length (take j.len j.bytes))
  reject-fits {n} r = subst (λ (k : ℕ). Room (outbox_in w h b) n 0 k) (sym (reject-length ∙ ap (λ (z : RejectBody). z.len) e)) r

  pub reject-joins : {o : Bytes} {w' h' b' : List ℕ} {o' : Bytes} → Joins w h b o (take j.len j.bytes) w' h' b' o' → Joins w h b o (reject_of (reject_in w b)) w' h' b' o'
  reject-joins {o} {w'} {h'} {b'} {o'} k = subst (λ (z : RejectBody). Joins w h b o (take z.len z.bytes) w' h' b' o') e k

module _ (t : Turn) (w h b : List ℕ) (o : Bytes) (pre : Settling t (reject_in w b) (outbox_in w h b) (length o)) where
  pub in_both : length w ≡ 1296 → t.sent ≡ true → t.dropped ≡ true → SettlesIn t w h b o (set w 0 (at w 0 + 1)) h b o
  in_both lw p q =
      record {
        settles =
            subst (λ (x : Outbox). Settles t (reject_of (reject_in w b)) (outbox_in w h b) o x o) (sym (renumbered w h b lw (at w 0 + 1)))
            (settles_both t (reject_in w b) (outbox_in w h b) o pre p q);
        words = past-set (past_same 2 w) 0 (at w 0 + 1) (omega arith);
        halves = past_same 512 h;
        bytes = past_same 512 b;
      }

  -- what the rejection asks
  pub room : t.sent ≡ true → (Room (outbox_in w h b) (length o) 0 (at w 14)) × (at w 14 ≤ length (reject_in w b).bytes)
  room p = (reject-room t (reject_in w b) (outbox_in w h b) o pre p, omega (arith, pre.short, pre.full))

  pub in_sent : t.sent ≡ true → t.dropped ≡ false → {w' h' b' : List ℕ} {o' : Bytes} → Joins w h b o (reject_of (reject_in w b)) w' h' b' o'
      → SettlesIn t w h b o w' h' b' o'
  in_sent p q {w'} {h'} {b'} {o'} j =
      record {
        settles = settles-sent t (reject_in w b) (outbox_in w h b) o pre (outbox_in w' h' b') o' p q j.appended;
        words =
            subst (λ (v : List ℕ). Past 2 w v) (sym j.words)
            (past-set (past-set (past_same 2 w) 0 (at w 0 + 1) (omega arith)) 1 (at w 1 + 1) (omega arith));
        halves = j.halves;
        bytes = j.bytes;
      }

  pub in_dropped : t.sent ≡ false → t.dropped ≡ true → {w' : List ℕ} {o' : Bytes} → Discards w h b o w' o' → SettlesIn t w h b o w' h b o'
  in_dropped p q {w'} {o'} d =
      record {
        settles = settles_dropped t (reject_in w b) (outbox_in w h b) o pre (outbox_in w' h b) o' p q d.left;
        words = d.words;
        halves = past_same 512 h;
        bytes = past_same 512 b;
      }

  pub in_none : t.sent ≡ false → t.dropped ≡ false → SettlesIn t w h b o w h b o
  in_none p q =
      record { settles = settles-none t (reject_in w b) (outbox_in w h b) o pre p q; words = past_same 2 w; halves = past_same 512 h; bytes = past_same 512 b }
