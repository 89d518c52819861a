-- Which session the parts are after a change: another queue, other acks that wait, or a failed stage. Assumes nothing.
use Rattle.std.specs.Prelude.{if◌then◌else◌}
use Prim.Native.Nat.{ℕ, ◌+◌, ◌≤◌, ◌<◌}
use mathlib.Core.Path.{◌≡◌, refl, sym, ap, ◌∙◌}
use mathlib.Core.Bool.{Bool, true, false}
use mathlib.Core.List.{List}
use native.Mathlib.Omega.{arith}
use lib.Dec.{eqb, ltb}
use lib.Ieee.{Float}
use lib.ListN.{length, set, length-set}
use lib.Seq.{get_or-set_same}
use borrow.Author.Tests.{eqb-true}
use Rattle.rules.specs.declared.Clock.{Clock}
use Rattle.rules.specs.declared.ReceiveMode.{ReceiveMode}
use Rattle.rules.specs.declared.ReceiveMode.TheVariants.{Raw, Proposal, Channel, Rejection, Retiring}
use Rattle.rules.specs.State.{is_channel}
use Rattle.rules.specs.Receiving.{mode_of}
use Rattle.numbers.specs.declared.Numbers.{Numbers}
use Rattle.peer_session.specs.declared.Stage.{Stage}
use Rattle.peer_session.specs.declared.SessionState.{SessionState}
use Rattle.peer_session.specs.Breaks.{failed_in}
use Rattle.delivery.specs.declared.Turn.{Turn}
use Rattle.draining.specs.Turns.{turn_of, with_queue}
use Rattle.parts.specs.declared.StageCodes.{StageCodes}
use Rattle.parts.specs.Codes.{good_codes, good_stage, stage_of}
use Rattle.parts.specs.Parts.{parts, at, flag, queue_in, waiting_in, clock_in, codes_in, opened_of}
use Rattle.parts.specs.Frames.{Only}
use Rattle.parts.proofs.Fields.{Agree, agree_set, agree_only, agree_above, outbox-same, queue-same, numbers-same, clock-same, codes_same, handoff-same, policy-same, reject-same}
use Rattle.parts.proofs.Opened.{opened_as}
use Rattle.parts.proofs.After.{agree_all}
use Rattle.link_codes.proofs.Enums.{stage-good}
use Rattle.link_queue.specs.Frames.{OnlyQueue}
use Rattle.link_draining.specs.Steps.{failed_bytes}

-- ---- another queue

module _ (w h b : List ℕ) (c : Float) (lw : 1296 ≤ length w) (lb : 4936 ≤ length b) {w' h' b' : List ℕ} (k : OnlyQueue w h b w' h' b') where
  low : (x y : ℕ) → y ≤ 16 → (x ≤ 4 → 4 < y → ⊥) → Agree x y w w'
  low x y l out = record { same = λ i hi hj. k.below i (omega arith) (λ e. out (omega (arith, e)) (omega (arith, e))) }

  high : (x y : ℕ) → 272 ≤ x → Agree x y w w'
  high x y l = record { same = λ i hi hj. k.above i (omega arith) }

  clocks : (x y : ℕ) → 768 ≤ x → Agree x y h h'
  clocks x y l = record { same = λ i hi hj. k.clock i (omega arith) }

  rests : (x y : ℕ) → 768 ≤ x → Agree x y b b'
  rests x y l = record { same = λ i hi hj. k.rest i (omega arith) }

  unackeds : Agree 0 512 h h'
  unackeds = record { same = λ i hi hj. k.unacked i (omega arith) }

  flags : Agree 0 512 b b'
  flags = record { same = λ i hi hj. k.flags i (omega arith) }

  pub requeued : opened_of (parts w' h' b' c) ≡ with_queue (queue_in w' h' b') (opened_of (parts w h b c))
  unfolding opened_of
  requeued =
      opened_as w' h' b' c
      (outbox-same (low 0 2 (omega arith) (λ x y. omega arith)) unackeds flags)
      ((low 2 3 (omega arith) (λ x y. omega arith)).same 2 (omega arith) (omega arith))
      ((low 3 4 (omega arith) (λ x y. omega arith)).same 3 (omega arith) (omega arith))
      refl
      (numbers-same (omega arith) k.words (low 5 (5 + 1) (omega arith) (λ x y. omega arith)) (high 272 (272 + 512) (omega arith)))
      (numbers-same (omega arith) k.words (low 6 (6 + 1) (omega arith) (λ x y. omega arith)) (high 784 (784 + 512) (omega arith)))
      (clock-same c (clocks 768 771 (omega arith)))
      (ap stage_of (codes_same (clocks 771 772 (omega arith)) (rests 768 773 (omega arith))))
      (handoff-same (omega arith) k.bytes (low 7 10 (omega arith) (λ x y. omega arith)) (rests 773 4872 (omega arith)))
      (policy-same (low 10 14 (omega arith) (λ x y. omega arith)))
      (reject-same lb k.bytes (low 14 15 (omega arith) (λ x y. omega arith)) (rests 4872 4936 (omega arith)))

-- ---- other acks that wait

abbrev pub with_waiting : Numbers → SessionState → SessionState
with_waiting v s =
    record {
      outbox = s.outbox;
      remote = s.remote;
      released = s.released;
      queue = s.queue;
      waiting = v;
      retry = s.retry;
      clock = s.clock;
      stage = s.stage;
      handoff = s.handoff;
      policy = s.policy;
      reject = s.reject;
    }

pub rewaited : (w h b : List ℕ) (c : Float) → 1296 ≤ length w → 4936 ≤ length b → {w' : List ℕ} → Only 272 5 w w'
    → opened_of (parts w' h b c) ≡ with_waiting (waiting_in w') (opened_of (parts w h b c))
unfolding opened_of
rewaited w h b c lw lb {w'} k =
    opened_as w' h b c
    (outbox-same (agree_only 0 2 k (omega arith) (λ x y. omega arith)) (agree_all 0 512 h) (agree_all 0 512 b))
    ((agree_only 2 3 k (omega arith) (λ x y. omega arith)).same 2 (omega arith) (omega arith))
    ((agree_only 3 4 k (omega arith) (λ x y. omega arith)).same 3 (omega arith) (omega arith))
    (queue-same (agree_only 4 5 k (omega arith) (λ x y. omega arith)) (agree_only 16 272 k (omega arith) (λ x y. omega arith)) (agree_all 512 768 h) (agree_all 512 768 b))
    refl
    (numbers-same (omega arith) k.size (agree_only 6 (6 + 1) k (omega arith) (λ x y. omega arith)) (agree_above 784 (784 + 512) k (omega arith)))
    refl
    refl
    (handoff-same (omega arith) refl (agree_only 7 10 k (omega arith) (λ x y. omega arith)) (agree_all 773 4872 b))
    (policy-same (agree_only 10 14 k (omega arith) (λ x y. omega arith)))
    (reject-same lb refl (agree_only 14 15 k (omega arith) (λ x y. omega arith)) (agree_all 4872 4936 b))

-- ---- the stage

pub stage_is : (g : StageCodes) → good_codes g ≡ true → stage_of g ≡ good_stage g
stage_is g good = sym (stage-good g good refl refl)

pub turns : (w h b : List ℕ) (c : Float) → good_codes (codes_in h b) ≡ true → (m : ReceiveMode) → m ≡ mode_of (at b 771) → (k : Clock) → k ≡ clock_in h c
    → ◌≡◌ {A = Turn}
    (record {
      mode = m;
      failed = flag (at b 772);
      remote = at w 2;
      clock = k;
      disposition = at b 768;
      next = at w 0;
      unacked = ltb 0 (at w 1);
      sent = false;
      dropped = false;
    })
    (turn_of (opened_of (parts w h b c)))
unfolding opened_of
turns w h b c good m em k ek = rw (em, ek, stage_is (codes_in h b) good)

not_channel : (a b d : Bool) → is_channel (if a then Raw else if b then Proposal else if false then Channel else if d then Rejection else Retiring) ≡ false
not_channel true b d = refl
not_channel false true d = refl
not_channel false false true = refl
not_channel false false false = refl

channel_code : (m : ℕ) (z : Bool) → eqb m 2 ≡ z → is_channel (mode_of m) ≡ z
channel_code m true e = ap (λ (k : ℕ). is_channel (mode_of k)) (eqb-true m 2 e)
channel_code m false e =
    ap (λ (z : Bool). is_channel (if eqb m 0 then Raw else if eqb m 1 then Proposal else if z then Channel else if eqb m 3 then Rejection else Retiring)) e
    ∙ not_channel (eqb m 0) (eqb m 1) (eqb m 3)

abbrev pub with_failed : Bool → SessionState → SessionState
with_failed f s =
    record {
      outbox = s.outbox;
      remote = s.remote;
      released = s.released;
      queue = s.queue;
      waiting = s.waiting;
      retry = s.retry;
      clock = s.clock;
      stage = record { disposition = s.stage.disposition; setup = s.stage.setup; mode = s.stage.mode; failed = f };
      handoff = s.handoff;
      policy = s.policy;
      reject = s.reject;
    }

module _ (w h b : List ℕ) (c : Float) (lb : 4936 ≤ length b) (good : good_codes (codes_in h b) ≡ true) where
  abbrev g : Stage
  g = stage_of (codes_in h b)

  channel : (z : Bool) → eqb (at b 771) 2 ≡ z → is_channel g.mode ≡ z
  channel z e = ap (λ (x : Stage). is_channel x.mode) (stage_is (codes_in h b) good) ∙ channel_code (at b 771) z e

  abbrev b₁ : List ℕ
  b₁ = set b 772 1

  bytes : (x y : ℕ) → (x ≤ 772 → 772 < y → ⊥) → Agree x y b b₁
  bytes x y out = agree_set b 772 1 x y out

  failed-codes : codes_in h b₁ ≡ record { terms = at h 771; disposition = at b 768; setup = at b 769; initiator = flag (at b 770); mode = at b 771; failed = true }
  failed-codes =
      let f : Agree 768 772 b b₁ = bytes 768 772 (λ x y. omega arith) in
      let d : at b₁ 768 ≡ at b 768 = f.same 768 (omega arith) (omega arith) in
      let s : at b₁ 769 ≡ at b 769 = f.same 769 (omega arith) (omega arith) in
      let i : at b₁ 770 ≡ at b 770 = f.same 770 (omega arith) (omega arith) in
      let m : at b₁ 771 ≡ at b 771 = f.same 771 (omega arith) (omega arith) in
      let x : at b₁ 772 ≡ 1 = get_or-set_same b 772 1 0 (omega arith) in
      rw (d, s, i, m, x)

  failed-stage : stage_of (codes_in h b₁) ≡ record { disposition = g.disposition; setup = g.setup; mode = g.mode; failed = true }
  failed-stage =
      ap stage_of failed-codes
      ∙ stage_is (record { terms = at h 771; disposition = at b 768; setup = at b 769; initiator = flag (at b 770); mode = at b 771; failed = true }) good
      ∙ sym (ap (λ (x : Stage). record { disposition = x.disposition; setup = x.setup; mode = x.mode; failed = true }) (stage_is (codes_in h b) good))

  fails_now : opened_of (parts w h b₁ c) ≡ with_failed true (opened_of (parts w h b c))
  unfolding opened_of
  fails_now =
      opened_as w h b₁ c (outbox-same (agree_all 0 2 w) (agree_all 0 512 h) (bytes 0 512 (λ x y. omega arith))) refl refl
      (queue-same (agree_all 4 5 w) (agree_all 16 272 w) (agree_all 512 768 h) (bytes 512 768 (λ x y. omega arith))) refl refl refl failed-stage
      (handoff-same (omega arith) (length-set b 772 1) (agree_all 7 10 w) (bytes 773 4872 (λ x y. omega arith))) refl
      (reject-same lb (length-set b 772 1) (agree_all 14 15 w) (bytes 4872 4936 (λ x y. omega arith)))

  -- a refusal in Channel mode fails the session; any other leaves it
  pub marked : opened_of (parts w h (failed_bytes b) c)
      ≡ with_failed (failed_in (opened_of (parts w h b c)).stage.mode (opened_of (parts w h b c)).stage.failed) (opened_of (parts w h b c))
  unfolding opened_of
  marked = go (eqb (at b 771) 2) refl
    where
      go : (z : Bool) → eqb (at b 771) 2 ≡ z
          → opened_of (parts w h (if z then b₁ else b) c) ≡ with_failed (failed_in g.mode g.failed) (opened_of (parts w h b c))
      go true e = fails_now ∙ ap (λ (x : Bool). with_failed (if x then true else g.failed) (opened_of (parts w h b c))) (sym (channel true e))
      go false e = ap (λ (x : Bool). with_failed (if x then true else g.failed) (opened_of (parts w h b c))) (sym (channel false e))
