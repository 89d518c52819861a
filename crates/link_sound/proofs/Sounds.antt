-- The check of a session in place, test by test. Assumes nothing.
use Prim.Native.Nat.{ℕ, ◌+◌, ◌-◌, ◌≤◌, ◌<◌}
use mathlib.Core.Path.{◌≡◌, sym, ap, ◌∙◌, subst}
use mathlib.Core.Bool.{Bool, true, false, ◌&&◌}
use mathlib.Core.List.{List}
use native.Mathlib.Omega.{arith}
use lib.ListN.{length, get_or}
use lib.Seq.{slice}
use lib.Ieee.{Float}
use Rattle.stores.specs.Admitted.{admitted}
use Rattle.stores.proofs.Scans.{admitted-on, admitted_not}
use Rattle.outbox.specs.Sound.{sound_outbox_of}
use Rattle.queue.specs.declared.Queued.{Queued}
use Rattle.queue.specs.View.{num_q, len_q, blank_q}
use Rattle.queue.specs.Sound.{admits_queued, sound_queue}
use Rattle.queue.proofs.Sound.{admits-fits}
use Rattle.peer_session.specs.View.{handoff_length}
use Rattle.peer_session.specs.Sound.{Full, Checked, sound_acks, sound_sizes, sound_of}
use Rattle.parts.specs.Seats.{seats}
use Rattle.parts.specs.Codes.{stage_of}
use Rattle.parts.specs.Parts.{at, queued_at, queue_in, outbox_in, policy_in, waiting_in, retry_in, codes_in, handoff_in, parts, opened_of}
use Rattle.parts.proofs.Seats.{length-seats, get_d_seats}
use Rattle.parts.proofs.Fields.{length-section}
use Rattle.link_sound.specs.Sizes.{Sized, admits}

-- ---- the queued frames from index i on, by where the first lies

module _ (w h b : List ℕ) (i n : ℕ) (few : n ≤ 256) (lt : i < n) (last sum : ℕ) where
  abbrev us : List Queued
  us = seats 256 (queued_at w h b)

  there : get_or us i blank_q ≡ queued_at w h b i
  there = get_d_seats 256 (queued_at w h b) i blank_q (omega arith)

  m : n ≤ length us
  m = omega (arith, length-seats 256 (queued_at w h b))

  next : admits_queued (policy_in w) last sum (queued_at w h b i) ≡ true
      → admitted num_q len_q (admits_queued (policy_in w)) last sum (slice i n us)
      ≡ admitted num_q len_q (admits_queued (policy_in w)) (at w (16 + i)) (sum + at h (512 + i)) (slice (i + 1) n us)
  next =
      subst (λ (u : Queued). admits_queued (policy_in w) last sum u ≡ true → admitted num_q len_q (admits_queued (policy_in w)) last sum (slice i n us)
      ≡ admitted num_q len_q (admits_queued (policy_in w)) (num_q u) (sum + len_q u) (slice (i + 1) n us)) there
      (admitted-on num_q len_q (admits_queued (policy_in w)) us i n blank_q lt m last sum)

  pub frames-on : {len : ℕ} {x : Bool} → len ≡ at h (512 + i) → admits_queued (policy_in w) last sum (queued_at w h b i) ≡ true
      → admitted num_q len_q (admits_queued (policy_in w)) last sum (slice i n us) ≡ x
      → admitted num_q len_q (admits_queued (policy_in w)) (at w (16 + i)) (sum + len) (slice (i + 1) n us) ≡ x
  frames-on el e ex = ap (λ (k : ℕ). admitted num_q len_q (admits_queued (policy_in w)) (at w (16 + i)) (sum + k) (slice (i + 1) n us)) el ∙ sym (next e) ∙ ex

  pub frames_not : admits_queued (policy_in w) last sum (queued_at w h b i) ≡ false → admitted num_q len_q (admits_queued (policy_in w)) last sum (slice i n us) ≡ false
  frames_not =
      subst (λ (u : Queued). admits_queued (policy_in w) last sum u ≡ false → admitted num_q len_q (admits_queued (policy_in w)) last sum (slice i n us) ≡ false) there
      (admitted_not num_q len_q (admits_queued (policy_in w)) us i n blank_q lt m last sum)

pub frame_tested : (w h b : List ℕ) (i last sum : ℕ) {r : Bool} {len : ℕ} → len ≡ at h (512 + i)
    → r ≡ admits (at w 13) (at w 12) last sum (at w (16 + i)) len (at b (512 + i)) → admits_queued (policy_in w) last sum (queued_at w h b i) ≡ r
frame_tested w h b i last sum el e = sym (e ∙ ap (λ (k : ℕ). admits (at w 13) (at w 12) last sum (at w (16 + i)) k (at b (512 + i))) el)

pub frame-room : (w h b : List ℕ) (i last sum : ℕ) → admits_queued (policy_in w) last sum (queued_at w h b i) ≡ true → at h (512 + i) ≤ at w 12 - sum
frame-room w h b i last sum e = (admits-fits (policy_in w) last sum (queued_at w h b i) e).room

-- ---- all of it

module _ (w h b : List ℕ) (s : Sized w b) (t : Float) where
  pub full : Full (opened_of (parts w h b t))
  unfolding opened_of
  full =
      record {
        unacked = length-seats 256 _;
        queue = length-seats 256 _;
        waiting = length-section 272 512 w (omega (arith, s.words));
        retry = length-section 784 512 w (omega (arith, s.words));
        handoff = length-section 776 4096 b (omega (arith, s.bytes));
        reject = length-section 4872 64 b (omega (arith, s.bytes));
      }

  -- the four tests, the last on numbers read before them
  pub checked : {d n : ℕ} {r : Bool} → d ≡ (stage_of (codes_in h b)).disposition → n ≡ handoff_length (handoff_in w b)
      → r ≡ (sound_outbox_of (outbox_in w h b)
      && (sound_queue (policy_in w) (at w 2) (queue_in w h b) && (sound_acks (waiting_in w) (retry_in w) (at w 4) (at w 2) && sound_sizes d n (at w 14))))
      → Checked (opened_of (parts w h b t)) r
  unfolding sound_of opened_of
  checked {d} {n} {r} ed en er =
      let tests : ℕ → ℕ → Bool =
      λ (x y : ℕ). sound_outbox_of (outbox_in w h b)
      && (sound_queue (policy_in w) (at w 2) (queue_in w h b) && (sound_acks (waiting_in w) (retry_in w) (at w 4) (at w 2) && sound_sizes x y (at w 14))) in
      record {
        is = er ∙ ap (λ (x : ℕ). tests x n) ed ∙ ap (tests (stage_of (codes_in h b)).disposition) en;
        full = full;
      }
