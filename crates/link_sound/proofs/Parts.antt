-- What a caller has of a session in place that is found sound. Assumes nothing.
use Prim.Native.Nat.{ℕ, ◌-◌, ◌≤◌}
use mathlib.Core.Path.{◌≡◌, refl, sym}
use mathlib.Core.Bool.{Bool, true, false}
use mathlib.Core.List.{List}
use native.Mathlib.Omega.{arith}
use lib.ListN.{length}
use lib.Dec.{leb}
use lib.Ieee.{Float}
use borrow.Author.Tests.{leb-true}
use Rattle.std.proofs.lemmas.Bool.{and_parts}
use Rattle.rules.specs.Lists.{Bytes, rising, itself, all}
use Rattle.rules.specs.Sound.{at_most}
use Rattle.numbers.specs.Seats.{in_use}
use Rattle.outbox.specs.View.{ExactOutbox}
use Rattle.outbox.specs.Sound.{sound_outbox_of}
use Rattle.queue.specs.View.{ExactQueue}
use Rattle.queue.specs.Sound.{sound_queue}
use Rattle.peer_session.specs.Sound.{Checked, sound_acks, sound_sizes, sound_of}
use Rattle.peer_session.proofs.View as Views
use Rattle.parts.specs.Codes.{good_codes, stage_of}
use Rattle.parts.specs.Parts.{at, outbox_in, queue_in, waiting_in, retry_in, policy_in, codes_in, parts, opened_of}
use Rattle.link_numbers.specs.Sets.{Rising}
use Rattle.link_numbers.proofs.Sets.{section-room}
use Rattle.link_numbers.proofs.Asked.{tail_ascends}
use Rattle.link_codes.proofs.Enums.{disposition_bad}

-- the parts of a sound session, each as calls on it ask
pub record Usable (w h b : List ℕ) : Type 0 where
  pub outbox : sound_outbox_of (outbox_in w h b) ≡ true
  pub unacked : (o : Bytes) → 65536 ≤ length o → ExactOutbox (outbox_in w h b) (length o)
  pub queued : (q : Bytes) → 32768 ≤ length q → ExactQueue (queue_in w h b) (length q)
  pub queue : sound_queue (policy_in w) (at w 2) (queue_in w h b) ≡ true
  pub waiting : Rising 272 5 w
  pub retry : Rising 784 6 w
  pub behind : all (at_most (at w 2)) (in_use (waiting_in w)) ≡ true
  pub room : at w 4 ≤ 512 - at w 5
  pub first : 1 ≤ at w 0
  pub end : at w 0 ≤ 4294967296
  pub codes : good_codes (codes_in h b) ≡ true
  pub words : 1296 ≤ length w

pub usable : (w h b : List ℕ) (t : Float) → Checked (opened_of (parts w h b t)) true → Usable w h b
unfolding opened_of sound_of sound_acks sound_sizes
usable w h b t k =
    let p = Views.parts (opened_of (parts w h b t)) (sym k.is) k.full in
    let o = and_parts (sound_outbox_of (outbox_in w h b)) _ (sym k.is) in
    let q = and_parts (sound_queue (policy_in w) (at w 2) (queue_in w h b)) _ o.1 in
    let a = and_parts (sound_acks (waiting_in w) (retry_in w) (at w 4) (at w 2)) _ q.1 in
    let a1 = and_parts (leb (at w 5) 512) _ a.0 in
    let a2 = and_parts (leb (at w 4) (512 - at w 5)) _ a1.1 in
    let a3 = and_parts (leb (at w 6) 512) _ a2.1 in
    let a4 = and_parts (rising itself 0 (in_use (waiting_in w))) _ a3.1 in
    let a5 = and_parts (all (at_most (at w 2)) (in_use (waiting_in w))) _ a4.1 in
    let d : (stage_of (codes_in h b)).disposition ≤ 4 = leb-true _ _ (and_parts (leb (stage_of (codes_in h b)).disposition 4) _ a.1).0 in
    record {
      outbox = p.outbox;
      unacked = p.unacked;
      queued = p.queued;
      queue = q.0;
      waiting =
          record {
            set = record { within = omega arith; outside = omega arith; exact = p.waiting };
            rises = tail_ascends 0 (in_use (waiting_in w)) a4.0;
          };
      retry = record { set = record { within = omega arith; outside = omega arith; exact = p.retry }; rises = a5.1 };
      behind = a5.0;
      room = leb-true _ _ a2.0;
      first = p.first;
      end = p.end;
      codes = good (good_codes (codes_in h b)) refl d;
      words = section-room 784 w p.retry.full;
    }
  where
    good : (x : Bool) → good_codes (codes_in h b) ≡ x → (stage_of (codes_in h b)).disposition ≤ 4 → good_codes (codes_in h b) ≡ true
    good true e d = e
    good false e d = absurd (omega (arith, disposition_bad (codes_in h b) e))
