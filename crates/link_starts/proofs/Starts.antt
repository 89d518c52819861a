-- A start on the parts of a session, by what it writes of them. Assumes nothing.
use Prim.Native.Nat.{ℕ, ◌+◌, ◌-◌, ◌≤◌}
use mathlib.Core.Path.{◌≡◌, refl, sym, ap, ◌∙◌, subst}
use mathlib.Core.Bool.{false, true≢false}
use mathlib.Core.List.{List, [], ◌∷◌}
use native.Mathlib.Omega.{arith}
use lib.IntN.{pos}
use lib.Ieee.{Float, fin}
use lib.ListN.{length, take, drop, replicate}
use lib.Seq.{take-take, take_at}
use Rattle.rules.specs.declared.Answer.TheVariants.{Done, Refused}
use Rattle.rules.specs.declared.Policy.{Policy}
use Rattle.rules.specs.declared.Refusal.{Refusal}
use Rattle.rules.specs.declared.Setup.TheVariants.{None}
use Rattle.rules.specs.declared.ReceiveMode.TheVariants.{Raw}
use Rattle.rules.specs.Lists.{Bytes, total, itself}
use Rattle.rules.specs.Buffers.{filled}
use Rattle.stores.specs.Placed.{placed}
use Rattle.stores.proofs.Laws.{length-placed, drop-placed}
use Rattle.outbox.specs.declared.Outbox.{Outbox}
use Rattle.peer_session.specs.declared.SessionState.{SessionState}
use Rattle.peer_session.specs.New.{New}
use Rattle.starts.specs.declared.Reliable.{Reliable}
use Rattle.starts.specs.Started.{short_record, Started}
use Rattle.starts.specs.Records.{reliable_of, Recorded, Rejecting, Beginning, Begun, Judged, NotGood}
use Rattle.starts.proofs.Messages.{Long, long_record}
use Rattle.starts.proofs.Checks.{Good, found-good, good_beginning}
use Rattle.starts.proofs.Begins as Plain
use Rattle.parts.specs.declared.LinkAnswer.{LinkAnswer}
use Rattle.parts.specs.Codes.{answer_of, stage_of}
use Rattle.parts.specs.Parts.{Parts, parts, at, flag, section, outbox_in, queued_at, clock_in, codes_in, reject_in, opened_of}
use Rattle.parts.specs.Driven.{DrivenStart}
use Rattle.parts.proofs.Seats.{length-seats}
use Rattle.parts.proofs.Fields.{length-section, section-same, outbox-same}
use Rattle.parts.proofs.After.{agree_all}
use Rattle.link_starts.specs.Filled.{Filled}
use Rattle.link_starts.proofs.Filling.{puts, puts_filled, placed_below}
use Rattle.link_starts.specs.Steps.{Written}
use Rattle.link_starts.specs.Starts.{head, middle, BodyIn}
use Rattle.link_starts.proofs.Messages.{recorded_in}

-- ---- a refusal

-- the session that a refused start of the plain driver hands out
abbrev nothing-there : SessionState
nothing-there =
    record {
      outbox = record { next = 0; records = []; count = 0 };
      remote = 0;
      released = 0;
      queue = record { records = []; count = 0 };
      waiting = record { values = []; count = 0 };
      retry = record { values = []; count = 0 };
      clock = record { last_replay_at = fin false 0 (pos 0); generation = 0; released = 0; persisted = 0 };
      stage = record { disposition = 0; setup = None; mode = Raw; failed = false };
      handoff = record { body = []; len = 0; id = 0; number = 0; sent = false; acknowledged = false; present = false };
      policy = record { gap = 0; messages = 0; bytes = 0; body = 0 };
      reject = record { bytes = []; len = 0 };
    }

pub turned : (x : Reliable) (ns ks : List ℕ) (bodies : Bytes) (policy : Policy) (reject : Bytes) (p : Parts) (o q : Bytes) (z : Refusal)
    → NotGood x ns ks bodies policy reject (length o) (length q) z → {y : LinkAnswer} → y ≡ answer_of (Refused z) 0
    → DrivenStart p p y (λ r. Started x ns ks bodies policy reject o q r o q)
turned x ns ks bodies policy reject p o q z k e =
    record {
      returned = record { session = nothing-there; answer = Refused z; events = 0 };
      called = k.call o q refl refl (record { session = nothing-there; answer = Refused z; events = 0 }) (record { session = refl; answer = refl; events = refl });
      leaves = λ f. absurd (true≢false f);
      answers = e;
      kept = λ f. refl;
    }

-- ---- what is written

pub body_in : (d : ℕ) (reject : Bytes) (b l : List ℕ) → length b ≡ 4936 → length reject ≤ 64 → l ≡ placed b 4872 reject → BodyIn d reject b (puts 768 (middle d) l)
body_in d reject b l lb small e =
    let room : 4872 + length reject ≤ length b = omega arith in
    let ll : length l ≡ length b = ap length e ∙ length-placed b 4872 reject room in
    let l' : List ℕ = puts 768 (middle d) l in
    let f : Filled 768 8 (at (middle d)) l l' = puts_filled 768 (middle d) l (omega arith) in
    record {
      size = f.size ∙ ll;
      messages = λ i k. f.below i k ∙ ap (λ (z : List ℕ). at z i) e ∙ placed_below b 4872 reject room i (omega arith);
      codes = f.filled;
      body =
          ap (take (length reject)) (section-same 4872 64 l l' (omega arith) f.size (record { same = λ i hi hj. f.above i (omega arith) }))
          ∙ take-take (length reject) 64 (drop 4872 l) small
          ∙ ap (λ (z : List ℕ). take (length reject) (drop 4872 z)) e
          ∙ ap (take (length reject)) (drop-placed b 4872 reject room)
          ∙ take_at reject (drop (4872 + length reject) b) (length reject) refl;
    }

-- ---- the new session

abbrev pub zero_time : Float
zero_time = fin false 0 (pos 0)

module _ (x : Reliable) (ns ks : List ℕ) (policy : Policy) (reject : Bytes) {w h b w' h₁ b₁ h' b' : List ℕ} (lw : length w ≡ 1296) (lb : length b ≡ 4936)
    (g : Written ns ks h b h₁ b₁) (hd : Filled 0 15 (at (head x (length ns) policy (length reject))) w w') (tl : Filled 768 4 (at (0 ∷ 0 ∷ 0 ∷ 0 ∷ [])) h₁ h')
    (k : BodyIn x.disposition reject b₁ b') where
  long-words : length w' ≡ 1296
  long-words = hd.size ∙ lw

  long-bytes : length b' ≡ 4936
  long-bytes = k.size ∙ g.bytes.size ∙ lb

  messages : Recorded x.message_number ns ks (outbox_in w' h' b')
  messages =
      let r : Recorded x.message_number ns ks (outbox_in w' h₁ b') =
      recorded_in x.message_number g w' b' (hd.filled 0 (omega arith)) (hd.filled 1 (omega arith)) (λ i j. k.messages i (omega arith)) in
      subst (λ (o : Outbox). Recorded x.message_number ns ks o)
      (sym (outbox-same {h = h₁} {h' = h'} (agree_all 0 2 w') (record { same = λ i hi hj. tl.below i (omega arith) }) (agree_all 0 512 b'))) r

  rejecting : Rejecting reject (reject_in w' b')
  rejecting =
      let n : at w' 14 ≡ length reject = hd.filled 14 (omega arith) in
      record {
        size = n;
        body = ap (λ (j : ℕ). take j (section 4872 64 b')) n ∙ k.body;
        full = length-section 4872 64 b' (omega (arith, long-bytes));
      }

  codes-new : codes_in h' b' ≡ record { terms = 0; disposition = x.disposition; setup = 0; initiator = false; mode = 0; failed = false }
  codes-new =
      let t : at h' 771 ≡ 0 = tl.filled 3 (omega arith) in
      let d : at b' 768 ≡ x.disposition = k.codes 0 (omega arith) in
      let s : at b' 769 ≡ 0 = k.codes 1 (omega arith) in
      let i : at b' 770 ≡ 0 = k.codes 2 (omega arith) in
      let m : at b' 771 ≡ 0 = k.codes 3 (omega arith) in
      let f : at b' 772 ≡ 0 = k.codes 4 (omega arith) in
      rw (t, d, s, i, m, f)

  clock-new : clock_in h' zero_time ≡ record { last_replay_at = zero_time; generation = 0; released = 0; persisted = 0 }
  clock-new =
      let a : at h' 768 ≡ 0 = tl.filled 0 (omega arith) in
      let r : at h' 769 ≡ 0 = tl.filled 1 (omega arith) in
      let p : at h' 770 ≡ 0 = tl.filled 2 (omega arith) in
      rw (a, r, p)

  policy-new : ◌≡◌ {A = Policy} (record { gap = at w' 10; messages = at w' 11; bytes = at w' 12; body = at w' 13 }) policy
  policy-new =
      let a : at w' 10 ≡ policy.gap = hd.filled 10 (omega arith) in
      let m : at w' 11 ≡ policy.messages = hd.filled 11 (omega arith) in
      let y : at w' 12 ≡ policy.bytes = hd.filled 12 (omega arith) in
      let z : at w' 13 ≡ policy.body = hd.filled 13 (omega arith) in
      rw (a, m, y, z)

  is-new : New (outbox_in w' h' b') x.remote_number x.disposition policy (reject_in w' b') (opened_of (parts w' h' b' zero_time))
  unfolding opened_of
  is-new =
      let nw : at w' 5 ≡ 0 = hd.filled 5 (omega arith) in
      let nr : at w' 6 ≡ 0 = hd.filled 6 (omega arith) in
      record {
        outbox = refl;
        number = hd.filled 2 (omega arith);
        released = hd.filled 3 (omega arith);
        queue = record { none = hd.filled 4 (omega arith); full = length-seats 256 (queued_at w' h' b') };
        waiting = nw;
        retry = nr;
        acks = record { full = length-section 272 512 w' (omega (arith, long-words)); few = omega arith };
        retries = record { full = length-section 784 512 w' (omega (arith, long-words)); few = omega arith };
        clock = clock-new;
        stage = ap stage_of codes-new;
        handoff = record { absent = ap flag (k.codes 7 (omega arith)); full = length-section 776 4096 b' (omega (arith, long-bytes)) };
        policy_is = policy-new;
        reject_is = refl;
      }

  pub begun_in : Begun x ns ks policy reject (opened_of (parts w' h' b' zero_time))
  begun_in = Plain.begun-is x ns ks reject is-new messages rejecting

-- ---- a start that goes

module _ (x : Reliable) (ns ks : List ℕ) (bodies : Bytes) (policy : Policy) (reject o q : Bytes) (j : Judged x ns ks bodies policy reject (length o) (length q)) where
  good : Good (short_record ns ks bodies) (reliable_of x ns ks bodies) policy reject
  good = found-good _ _ _ _ j.good

  pub beginning : Beginning x ns ks reject
  beginning = good_beginning x ns ks bodies policy reject good

  pub bodies-there : total itself (take (length ns) ks) ≤ length bodies
  bodies-there = let l : Long ns ks bodies = long_record ns ks bodies good.long in l.bytes

  pub starts_in : (p p' : Parts) → Begun x ns ks policy reject (opened_of p') → (n : ℕ) → n ≡ total itself (take (length ns) ks) → (o' q' : Bytes)
      → o' ≡ filled (length o) (take n bodies) → q' ≡ placed q 0 (replicate (length q - 0) 0) → {y : LinkAnswer} → y ≡ answer_of Done 0
      → DrivenStart p p' y (λ r. Started x ns ks bodies policy reject o q r o' q')
  starts_in p p' k n en o' q' eo eq e =
      record {
        returned = record { session = opened_of p'; answer = Done; events = 0 };
        called =
            Plain.record_started x ns ks bodies policy reject o q j.outbound j.queue (opened_of p') o' q' good k
            (eo ∙ ap (λ (m : ℕ). filled (length o) (take m bodies)) en) eq;
        leaves = λ f. refl;
        answers = e;
        kept = λ f. absurd (true≢false (sym f));
      }
