-- A restore on the parts of a session, by what it leaves of them. Assumes nothing.
use Rattle.std.specs.Prelude.{if◌then◌else◌, Result, Err}
use Prim.Native.Nat.{ℕ, ◌+◌, ◌≤◌, ◌<◌}
use mathlib.Core.Path.{◌≡◌, refl, sym, ap, ◌∙◌, subst}
use mathlib.Core.Bool.{Bool, true, false, not, ◌&&◌, true≢false}
use mathlib.Core.List.{List}
use native.Mathlib.Omega.{arith}
use lib.Dec.{eqb}
use lib.Ieee.{Float}
use lib.ListN.{length, take}
use Rattle.rules.specs.declared.Answer.TheVariants.{Done, Refused}
use Rattle.rules.specs.declared.Refusal.{Refusal}
use Rattle.rules.specs.declared.Refusal.TheVariants.{ShortBuffer, UnknownCode, BadRecord, HandoffTooLong, RestoreTooLate, OtherHandoff}
use Rattle.std.proofs.Math.Option.{Option}
use Rattle.rules.specs.State as Book
use Rattle.rules.specs.Lists.{Bytes, total, itself}
use Rattle.rules.specs.Start.{good_record, handoff_size, agrees}
use Rattle.outbox.specs.declared.Outbox.{Outbox}
use Rattle.outbox.specs.View.{end_u}
use Rattle.peer_session.specs.declared.Stage.{Stage}
use Rattle.peer_session.specs.declared.TerminalHandoff.{TerminalHandoff}
use Rattle.peer_session.specs.declared.SessionState.{SessionState}
use Rattle.peer_session.specs.View.{handoff_of, handoff_length}
use Rattle.peer_session.specs.Sound.{sound_of, Full}
use Rattle.session.specs.declared.Returned.{Returned}
use Rattle.starts.specs.declared.Reliable.{Reliable}
use Rattle.starts.specs.Started.{short_record}
use Rattle.starts.specs.Records.{reliable_of}
use Rattle.restores.specs.Restored.{RestoredBy}
use Rattle.restores.specs.Steps.{Taking, Takes, Ends}
use Rattle.restores.proofs.Records as Plain
use Rattle.restores.proofs.Handoffs.{with_handoff, ends-other, ends-handed}
use Rattle.restores.proofs.Restores as R
use Rattle.parts.specs.declared.LinkAnswer.{LinkAnswer}
use Rattle.parts.specs.declared.StageCodes.{StageCodes}
use Rattle.parts.specs.Codes.{answer_of, good_codes, good_stage, bad_stage, stage_of}
use Rattle.parts.specs.Parts.{Parts, parts, at, outbox_in, codes_in, handoff_in, opened_of}
use Rattle.parts.specs.Driven.{Driven}
use Rattle.parts.proofs.Fields.{Agree, agree_past, outbox-same, queue-same, numbers-same, clock-same, handoff-same, policy-same, reject-same}
use Rattle.parts.proofs.After.{agree_all}
use Rattle.parts.proofs.Opened.{opened_as}
use Rattle.parts.proofs.Drives.{changes, refuses}
use Rattle.link_sound.proofs.Lengths.{words-long, bytes-long}
use Rattle.link_sound.proofs.Parts.{usable}
use Rattle.link_starts.specs.Steps.{Between, TakingIn, TakenIn}
use Rattle.link_restores.specs.Handed.{HandedIn}
use Rattle.link_restores.specs.Restores.{Ready, Turns, Found, Enters}

-- ---- the tests

module _ (x : Reliable) (ns ks : List ℕ) (bodies : Bytes) (given : Option Book.Handoff) (p : Parts) {n : ℕ} where
  pub short-outbound : n < 65536 → Turns x ns ks bodies given p n ShortBuffer
  short-outbound h = record { call = λ o e r t. R.store-short x ns ks bodies given (opened_of p) o t (omega (arith, e)) }

  pub short-messages : short_record ns ks bodies ≡ true → Turns x ns ks bodies given p n ShortBuffer
  short-messages h = record { call = λ o e r t. R.record_short x ns ks bodies given (opened_of p) o t h }

  module _ (lo : 65536 ≤ n) (long : short_record ns ks bodies ≡ false) where
    pub bad_code : 4 < x.disposition → Turns x ns ks bodies given p n UnknownCode
    bad_code h = record { call = λ o e r t. R.code_wrong x ns ks bodies given (opened_of p) o (omega (arith, e)) long t h }

    module _ (known : x.disposition ≤ 4) where
      pub unsound : sound_of (opened_of p) ≡ false → Turns x ns ks bodies given p n BadRecord
      unsound h = record { call = λ o e r t. R.session_bad x ns ks bodies given (opened_of p) o (omega (arith, e)) long known t h }

      module _ (sound : sound_of (opened_of p) ≡ true) (full : Full (opened_of p)) where
        pub bad_record : good_record (reliable_of x ns ks bodies) ≡ false → Turns x ns ks bodies given p n BadRecord
        bad_record h = record { call = λ o e r t. R.record_bad x ns ks bodies given (opened_of p) o (omega (arith, e)) long known sound full t h }

        module _ (good : good_record (reliable_of x ns ks bodies) ≡ true) where
          pub long-handoff : 4096 < handoff_size given → Turns x ns ks bodies given p n HandoffTooLong
          long-handoff h = record { call = λ o e r t. R.handoff-long x ns ks bodies given (opened_of p) o (omega (arith, e)) long known sound full good t h }

          pub late : handoff_size given ≤ 4096
              → true ≡ not (eqb (opened_of p).clock.generation 0 && eqb (opened_of p).queue.count 0 && eqb (opened_of p).waiting.count 0)
              → Turns x ns ks bodies given p n RestoreTooLate
          late small h = record { call = λ o e r t. R.restored_late x ns ks bodies given (opened_of p) o (omega (arith, e)) long known sound full good small t h }

-- a refusal by them
pub turned : (x : Reliable) (ns ks : List ℕ) (bodies : Bytes) (given : Option Book.Handoff) (p : Parts) (o : Bytes) (z : Refusal) → Turns x ns ks bodies given p (length o) z
    → {y : LinkAnswer} → y ≡ answer_of (Refused z) 0 → Driven p p y (λ s r. RestoredBy x ns ks bodies given s o r o)
turned x ns ks bodies given p o z k e = refuses p z e (λ r u. k.call o refl r u)

-- what the tests found, by their stop
module _ (x : Reliable) (ns ks : List ℕ) (bodies : Bytes) (given : Option Book.Handoff) (w h b : List ℕ) (t : Float) {n : ℕ} {stop : Result (Unit {0}) Refusal}
    (f : Enters x ns ks bodies given w h b n stop) where
  pub away : (z : Refusal) → stop ≡ Err z → Turns x ns ks bodies given (parts w h b t) n z
  away z e = subst (λ (s : Result (Unit {0}) Refusal). Found x ns ks bodies given (parts w h b t) n s) e (f t)

-- ---- the stage with another disposition

abbrev pub with_disposition : StageCodes → ℕ → StageCodes
with_disposition g d = record { terms = g.terms; disposition = d; setup = g.setup; initiator = g.initiator; mode = g.mode; failed = g.failed }

pub stage_with : (g g' : StageCodes) (d : ℕ) → good_codes g ≡ true
    → g' ≡ with_disposition g d
    → stage_of g' ≡ record { disposition = d; setup = (stage_of g).setup; mode = (stage_of g).mode; failed = (stage_of g).failed }
stage_with g g' d good e = ap stage_of e ∙ by (good_codes g) good
  where
    by : (t : Bool) → t ≡ true
        → ◌≡◌ {A = Stage} (if t then good_stage (with_disposition g d) else bad_stage (with_disposition g d))
        (record {
          disposition = d;
          setup = (if t then good_stage g else bad_stage g).setup;
          mode = (if t then good_stage g else bad_stage g).mode;
          failed = (if t then good_stage g else bad_stage g).failed;
        })
    by true e = refl
    by false e = absurd (true≢false (sym e))

-- ---- the session afterwards

-- s with another outbox, and the record's remote number and disposition
abbrev pub with_record : Reliable → Outbox → SessionState → SessionState
with_record x y s =
    record {
      outbox = y;
      remote = x.remote_number;
      released = s.released;
      queue = s.queue;
      waiting = s.waiting;
      retry = s.retry;
      clock = s.clock;
      stage = record { disposition = x.disposition; setup = s.stage.setup; mode = s.stage.mode; failed = s.stage.failed };
      handoff = s.handoff;
      policy = s.policy;
      reject = s.reject;
    }

between_low : {from to : ℕ} {l m r : List ℕ} (c d : ℕ) → d ≤ from → Agree c d l m → Between from to m r → Agree c d l r
between_low c d h g k = record { same = λ i hi hj. k.below i (omega arith) ∙ g.same i hi hj }

between_high : {from to : ℕ} {l m r : List ℕ} (c d : ℕ) → to ≤ c → Agree c d l m → Between from to m r → Agree c d l r
between_high c d h g k = record { same = λ i hi hj. k.above i (omega arith) ∙ g.same i hi hj }

-- nothing is changed
same_between : (from to : ℕ) (l : List ℕ) → Between from to l l
same_between from to l = record { size = refl; below = λ i k. refl; above = λ i k. refl }

module _ (x : Reliable) (ns ks : List ℕ) (bodies : Bytes) (given : Option Book.Handoff) (w h b : List ℕ) (t : Float) (o : Bytes)
    (ready : Ready x ns ks bodies given (parts w h b t) (length o)) where
  abbrev s : SessionState
  s = opened_of (parts w h b t)

  lw : 1296 ≤ length w
  lw = words-long w h b t ready.full

  lb : 4936 ≤ length b
  lb = bytes-long w h b t ready.full

  codes : good_codes (codes_in h b) ≡ true
  codes = (usable w h b t (record { is = sym ready.sound; full = ready.full })).codes

  takes-session : Taking x ns ks bodies s (length o)
  takes-session = R.taking x ns ks bodies given s o ready.outbound ready.long ready.known ready.sound ready.full ready.good

  pub taking_in : TakingIn x ns ks bodies w h b (length o)
  unfolding opened_of
  taking_in = let g : Taking x ns ks bodies s (length o) = takes-session in record { fitting = g.fitting; bytes = g.bytes; known = g.known; exact = g.exact }

  module _ {w' h' b' : List ℕ} {o' : Bytes} (k : TakenIn x ns ks bodies w h b o w' h' b' o') where
    -- what stays of the bytes: all from 512 on but the disposition
    stays : (c d : ℕ) → 512 ≤ c → (c ≤ 768 → 768 < d → ⊥) → Agree c d b b'
    stays c d l out = record { same = λ i hi hj. k.bytes i (omega arith) (λ e. out (omega (arith, e)) (omega (arith, e))) }

    handoff-stays : handoff_in w' b' ≡ handoff_in w b
    handoff-stays =
        handoff-same (omega (arith, lb)) k.size (agree_past 7 10 (omega arith) k.words) (stays 773 4872 (omega arith) (λ p q. omega arith))

    pub handed-small : handoff_length (handoff_in w' b') ≤ 4096
    unfolding opened_of
    handed-small =
        let l : length (handoff_in w b).body ≡ 4096 = ready.full.handoff in
        let z : handoff_length (handoff_in w b) ≤ length (handoff_in w b).body = R.handoff-taken s o ready.sound ready.full ready.outbound s refl in
        subst (λ (m : TerminalHandoff). handoff_length m ≤ 4096) (sym handoff-stays) (omega arith)

    -- by what a step on the handoff leaves
    module _ {w'' b'' : List ℕ} (kw : Between 7 10 w' w'') (kb : Between 773 4872 b' b'') where
      codes-after : codes_in h' b''
          ≡ record { terms = at h 771; disposition = x.disposition; setup = at b 769; initiator = (codes_in h b).initiator; mode = at b 771; failed = (codes_in h b).failed }
      codes-after =
          let g : Agree 769 773 b b'' = between_low 769 773 (omega arith) (stays 769 773 (omega arith) (λ p q. omega arith)) kb in
          let e0 : at h' 771 ≡ at h 771 = k.halves.same 771 (omega arith) in
          let e1 : at b'' 768 ≡ x.disposition = kb.below 768 (omega arith) ∙ k.disposition in
          let e2 : at b'' 769 ≡ at b 769 = g.same 769 (omega arith) (omega arith) in
          let e3 : at b'' 770 ≡ at b 770 = g.same 770 (omega arith) (omega arith) in
          let e4 : at b'' 771 ≡ at b 771 = g.same 771 (omega arith) (omega arith) in
          let e5 : at b'' 772 ≡ at b 772 = g.same 772 (omega arith) (omega arith) in
          rw (e0, e1, e2, e3, e4, e5)

      left : opened_of (parts w'' h' b'' t) ≡ with_handoff (handoff_in w'' b'') (with_record x (outbox_in w' h' b') s)
      unfolding opened_of
      left =
          opened_as w'' h' b'' t
          (outbox-same (between_low 0 2 (omega arith) (agree_all 0 2 w') kw) (agree_all 0 512 h') (between_low 0 512 (omega arith) (agree_all 0 512 b') kb))
          (kw.below 2 (omega arith) ∙ k.remote)
          (kw.below 3 (omega arith) ∙ k.words.same 3 (omega arith))
          (queue-same (between_low 4 5 (omega arith) (agree_past 4 5 (omega arith) k.words) kw) (between_high 16 272 (omega arith) (agree_past 16 272 (omega arith) k.words) kw)
          (agree_past 512 768 (omega arith) k.halves) (between_low 512 768 (omega arith) (stays 512 768 (omega arith) (λ p q. omega arith)) kb))
          (numbers-same (omega (arith, lw)) (kw.size ∙ k.words.size) (between_low 5 (5 + 1) (omega arith) (agree_past 5 (5 + 1) (omega arith) k.words) kw)
          (between_high 272 (272 + 512) (omega arith) (agree_past 272 (272 + 512) (omega arith) k.words) kw))
          (numbers-same (omega (arith, lw)) (kw.size ∙ k.words.size) (between_low 6 (6 + 1) (omega arith) (agree_past 6 (6 + 1) (omega arith) k.words) kw)
          (between_high 784 (784 + 512) (omega arith) (agree_past 784 (784 + 512) (omega arith) k.words) kw))
          (clock-same t (agree_past 768 771 (omega arith) k.halves))
          (stage_with (codes_in h b) (codes_in h' b'') x.disposition codes codes-after)
          refl
          (policy-same (between_high 10 14 (omega arith) (agree_past 10 14 (omega arith) k.words) kw))
          (reject-same lb (kb.size ∙ k.size) (between_high 14 15 (omega arith) (agree_past 14 15 (omega arith) k.words) kw)
          (between_high 4872 4936 (omega arith) (stays 4872 4936 (omega arith) (λ p q. omega arith)) kb))

    takes : Takes x ns ks bodies s o (with_record x (outbox_in w' h' b') s) o'
    unfolding opened_of
    takes =
        Plain.takes x ns ks bodies s o takes-session (outbox_in w' h' b') k.recorded (total itself (take (length ns) ks)) (end_u (outbox_in w h b)) refl refl o' k.stored

    restored : {z : Returned} → Ends given (with_record x (outbox_in w' h' b') s) z → RestoredBy x ns ks bodies given s o z o'
    restored f = R.restores_it x ns ks bodies given s o ready.outbound ready.long ready.known ready.sound ready.full ready.good ready.small ready.soon takes f

    agreed : {r : Bool} → agrees (handoff_of (handoff_in w' b')) given ≡ r → agrees (handoff_of s.handoff) given ≡ r
    unfolding opened_of
    agreed e = ap (λ (m : TerminalHandoff). agrees (handoff_of m) given) (sym handoff-stays) ∙ e

    kept : opened_of (parts w' h' b' t) ≡ with_record x (outbox_in w' h' b') s
    unfolding opened_of
    kept = left (same_between 7 10 w') (same_between 773 4872 b') ∙ ap (λ (m : TerminalHandoff). with_handoff m (with_record x (outbox_in w' h' b') s)) handoff-stays

    -- 31
    pub other-handoff : agrees (handoff_of (handoff_in w' b')) given ≡ false → {y : LinkAnswer} → y ≡ answer_of (Refused OtherHandoff) 0
        → Driven (parts w h b t) (parts w' h' b' t) y (λ s r. RestoredBy x ns ks bodies given s o r o')
    other-handoff e f =
        changes (parts w h b t) ready.sound (parts w' h' b' t) (with_record x (outbox_in w' h' b') s) kept (Refused OtherHandoff) 0 f
        (restored (ends-other given (with_record x (outbox_in w' h' b') s) (agreed e) (record { session = refl; answer = refl; events = refl })))

    pub goes_in : agrees (handoff_of (handoff_in w' b')) given ≡ true → {w'' b'' : List ℕ} → HandedIn given w' b' w'' b''
        → {y : LinkAnswer} → y ≡ answer_of Done 0 → Driven (parts w h b t) (parts w'' h' b'' t) y (λ s r. RestoredBy x ns ks bodies given s o r o')
    goes_in e {w''} {b''} g f =
        changes (parts w h b t) ready.sound (parts w'' h' b'' t) (with_handoff (handoff_in w'' b'') (with_record x (outbox_in w' h' b') s)) (left g.words g.bytes) Done 0 f
        (restored (ends-handed given (with_record x (outbox_in w' h' b') s) (handoff_in w'' b'') (agreed e) g.handed))
