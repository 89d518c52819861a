-- The steps of a command on the parts of a session, by what they leave of them. Assumes nothing.
use Prim.Native.Nat.{ℕ, ◌+◌, ◌≤◌, ◌<◌}
use mathlib.Core.Path.{◌≡◌, refl, sym, ap, ◌∙◌, subst}
use mathlib.Core.Bool.{Bool, true, false}
use mathlib.Core.List.{List}
use mathlib.Core.Option.{none, some}
use native.Mathlib.Omega.{arith}
use lib.Ieee.{Float}
use lib.ListN.{length}
use Rattle.rules.specs.declared.Answer.TheVariants.{Done, Refused}
use Rattle.rules.specs.declared.Clock.{Clock}
use Rattle.rules.specs.declared.Refusal.{Refusal}
use Rattle.rules.specs.declared.Refusal.TheVariants.{HandoffWithoutCommand}
use Rattle.rules.specs.declared.Setup.TheVariants.{Started}
use Rattle.rules.specs.Lists.{Bytes}
use Rattle.rules.specs.State as R
use Rattle.rules.specs.Progress.{Outcome}
use Rattle.rules.specs.Handoff.{Command}
use Rattle.std.specs.Prelude.{Ok, Err}
use Rattle.events.specs.Written.{Listed, asked}
use Rattle.outbox.specs.View.{ExactOutbox}
use Rattle.peer_session.specs.declared.SessionState.{SessionState}
use Rattle.peer_session.specs.Sound.{sound_of, Checked}
use Rattle.session.specs.declared.Returned.{Returned}
use Rattle.session.specs.Promise.{Turned}
use Rattle.setup.specs.Steps.{Asks, staged, Comes}
use Rattle.handoffs.specs.Commands.{starting_in, commanding, HandsOver}
use Rattle.handoffs.proofs.Steps as Plain
use Rattle.handoffs.proofs.Steps.{handing}
use Rattle.parts.specs.declared.LinkAnswer.{LinkAnswer}
use Rattle.parts.specs.Codes.{answer_of, stage_of}
use Rattle.parts.specs.Parts.{Parts, parts, at, flag, outbox_in, clock_in, codes_in, handoff_in, opened_of}
use Rattle.parts.proofs.Fields.{Agree, outbox-same, queue-same, numbers-same, codes_same, policy-same, reject-same}
use Rattle.parts.proofs.Opened.{opened_as}
use Rattle.parts.proofs.After.{agree_all}
use Rattle.link_sound.proofs.Lengths.{words-long, bytes-long}
use Rattle.link_sound.proofs.Parts.{usable}
use Rattle.link_sending.specs.Sends.{Ready, AllocatesIn, Joined}
use Rattle.link_sending.proofs.Sends.{raised, left, clock-raised}
use Rattle.link_setup.specs.Steps.{Stages, AsksIn}
use Rattle.link_setup.proofs.Stages.{stage_is, restaged, stages_apart, stage-starts}
use Rattle.link_setup.proofs.Joins.{grown, joins, joins_not}
use Rattle.link_starts.specs.Steps.{Between}
use Rattle.link_restores.specs.Handed.{HandedIn}
use Rattle.link_restores.proofs.Handoffs.{flag-there, flag_gone}
use Rattle.link_handoffs.specs.Commands.{no_terms, Starts, ComesIn}

-- ---- a step that leaves the parts

module _ {rule : R.State → Outcome} (p : Parts) (l : List ℕ) (o : Bytes) where
  pub refuses_in : (x : Refusal) {y : LinkAnswer} → y ≡ answer_of (Refused x) 0 → ((r : Returned) → Turned (opened_of p) x r → Comes rule (opened_of p) l o r l o)
      → ComesIn rule p p l o y l o
  refuses_in x e f =
      let r : Returned = record { session = opened_of p; answer = Refused x; events = 0 } in
      record { returned = r; comes = f r (record { session = refl; answer = refl; events = refl }); leaves = refl; answers = e }

  pub asks_in : {y : LinkAnswer} {l' : List ℕ} → AsksIn (opened_of p).clock l y l' → ((r : Returned) → Asks (opened_of p) l r l' → Comes rule (opened_of p) l o r l' o)
      → ComesIn rule p p l o y l' o
  asks_in a f =
      let r : Returned = record { session = opened_of p; answer = Done; events = a.events } in
      record { returned = r; comes = f r (record { is = refl; listed = a.listed }); leaves = refl; answers = a.answers }

-- the clock that a request goes by lies in the halves
pub clocked : (w h b : List ℕ) (t : Float) {l l' : List ℕ} {y : LinkAnswer} → AsksIn (clock_in h t) l y l' → AsksIn (opened_of (parts w h b t)).clock l y l'
unfolding opened_of
clocked w h b t a = a

-- ---- setup started

module _ (w h b : List ℕ) (t : Float) (k : Checked (opened_of (parts w h b t)) true) (lh : length h ≡ 772) where
  disposition_in : at b 768 ≡ (opened_of (parts w h b t)).stage.disposition
  unfolding opened_of
  disposition_in = rw (stage_is (codes_in h b) (usable w h b t k).codes)

  pub started : (restoring : Bool) {h' b' : List ℕ} → Starts restoring h b h' b' → opened_of (parts w h' b' t) ≡ starting_in restoring (opened_of (parts w h b t))
  started true {h'} {b'} s =
      let lb : 4936 ≤ length b = bytes-long w h b t k.full in
      let g : Stages (at b 768) 2 no_terms h b h' b' = s.starts refl in
      restaged w h b h' b' t lb (stages_apart h b lh lb (usable w h b t k).codes g) (at b 768) Started (stage-starts h b lh lb (usable w h b t k).codes g)
      ∙ ap (λ (d : ℕ). staged d Started (opened_of (parts w h b t))) disposition_in
  started false s = rw (s.halves refl, s.bytes refl)

-- the session in which a command is carried out is as good as the one before
pub still_checked : (restoring : Bool) (s : SessionState) {x : SessionState} → x ≡ starting_in restoring s → Checked s true → Checked x true
unfolding sound_of
still_checked true s e k =
    rw e
    (record {
      is = k.is;
      full =
          record {
            unacked = k.full.unacked;
            queue = k.full.queue;
            waiting = k.full.waiting;
            retry = k.full.retry;
            handoff = k.full.handoff;
            reject = k.full.reject;
          };
    })
still_checked false s e k = rw e k

pub still_low : (restoring : Bool) (s : SessionState) {x : SessionState} → x ≡ starting_in restoring s → s.clock.generation < 4294966000 → x.clock.generation < 4294966000
still_low true s e h = rw e h
still_low false s e h = rw e h

-- ---- no command

module _ (w h b : List ℕ) (t : Float) (l : List ℕ) (o : Bytes) (ex : ExactOutbox (outbox_in w h b) (length o)) (restoring : Bool) where
  abbrev p : Parts
  p = parts w h b t

  exact : ExactOutbox (opened_of p).outbox (length o)
  unfolding opened_of
  exact = ex

  pub no_command : {y : LinkAnswer} {l' : List ℕ} → restoring ≡ false → AsksIn (clock_in h t) l y l' → ComesIn (commanding restoring none) p p l o y l' o
  no_command e a = asks_in p l o (clocked w h b t a) (λ r u. Plain.no_command (opened_of p) l o exact restoring e u)

  is-absent : at b 775 ≡ 0 → (opened_of p).handoff.present ≡ false
  unfolding opened_of
  is-absent e = flag_gone (at b 775) e

  is-there : (at b 775 ≡ 0 → ⊥) → (opened_of p).handoff.present ≡ true
  unfolding opened_of
  is-there e = flag-there (at b 775) e

  pub no_handoff : {y : LinkAnswer} {l' : List ℕ} → at b 775 ≡ 0 → AsksIn (clock_in h t) l y l' → ComesIn (commanding restoring none) p p l o y l' o
  no_handoff e a = asks_in p l o (clocked w h b t a) (λ r u. Plain.no_handoff (opened_of p) l o exact restoring (is-absent e) u)

  pub without_command : {y : LinkAnswer} → restoring ≡ true → (at b 775 ≡ 0 → ⊥) → y ≡ answer_of (Refused HandoffWithoutCommand) 0
      → ComesIn (commanding restoring none) p p l o y l o
  without_command e n f = refuses_in p l o HandoffWithoutCommand f (λ r u. Plain.without_command (opened_of p) l o exact restoring e (is-there n) u)

-- ---- a command with no handoff

-- another handoff, all else as it was
module _ (w h b : List ℕ) (t : Float) (lw : 1296 ≤ length w) (lb : 4936 ≤ length b) {w' b' : List ℕ} (kw : Between 7 10 w w') (kb : Between 773 4872 b b') where
  low-words : (c d : ℕ) → d ≤ 7 → Agree c d w w'
  low-words c d k = record { same = λ i hi hj. kw.below i (omega arith) }

  high_words : (c d : ℕ) → 10 ≤ c → Agree c d w w'
  high_words c d k = record { same = λ i hi hj. kw.above i (omega arith) }

  low-bytes : (c d : ℕ) → d ≤ 773 → Agree c d b b'
  low-bytes c d k = record { same = λ i hi hj. kb.below i (omega arith) }

  high_bytes : (c d : ℕ) → 4872 ≤ c → Agree c d b b'
  high_bytes c d k = record { same = λ i hi hj. kb.above i (omega arith) }

  pub handed-leaves : opened_of (parts w' h b' t) ≡ handing (handoff_in w' b') (opened_of (parts w h b t))
  unfolding opened_of
  handed-leaves =
      opened_as w' h b' t
      (outbox-same (low-words 0 2 (omega arith)) (agree_all 0 512 h) (low-bytes 0 512 (omega arith)))
      (kw.below 2 (omega arith))
      (kw.below 3 (omega arith))
      (queue-same (low-words 4 5 (omega arith)) (high_words 16 272 (omega arith)) (agree_all 512 768 h) (low-bytes 512 768 (omega arith)))
      (numbers-same (omega arith) kw.size (low-words 5 (5 + 1) (omega arith)) (high_words 272 (272 + 512) (omega arith)))
      (numbers-same (omega arith) kw.size (low-words 6 (6 + 1) (omega arith)) (high_words 784 (784 + 512) (omega arith)))
      refl
      (ap stage_of (codes_same (agree_all 771 772 h) (low-bytes 768 773 (omega arith))))
      refl
      (policy-same (high_words 10 14 (omega arith)))
      (reject-same lb kb.size (high_words 14 15 (omega arith)) (high_bytes 4872 4936 (omega arith)))

module _ (w h b : List ℕ) (t : Float) (l : List ℕ) (o body : Bytes) (id : ℕ) (ready : Ready (parts w h b t) (length l) (length o)) (none-there : flag (at b 775) ≡ false) where
  abbrev k : Checked (opened_of (parts w h b t)) true
  k = ready.checked

  abbrev c : Command
  c = record { id = id; body = body }

  abbrev s : SessionState
  s = opened_of (parts w h b t)

  absent : s.handoff.present ≡ false
  unfolding opened_of
  absent = none-there

  pub stopped : {w' h' b' : List ℕ} {o' : Bytes} {x : Refusal} → AllocatesIn body w h b o (Err x) w' h' b' o' → {y : LinkAnswer} → y ≡ answer_of (Refused x) 0
      → (restoring : Bool) → ComesIn (commanding restoring (some c)) (parts w h b t) (parts w' h' b' t) l o y l o'
  stopped {o' = o'} {x = x} a {y} f restoring =
      subst (λ (g : Float → Parts). ComesIn (commanding restoring (some c)) (parts w h b t) (g t) l o y l o') (sym (a.kept x refl))
      (record {
        returned = record { session = s; answer = Refused x; events = 0 };
        comes =
            Plain.hand_stopped restoring c absent (joins_not w h b t k s.stage.disposition a)
            (record { session = refl; answer = refl; events = refl });
        leaves = refl;
        answers = f;
      })

  -- the handoff that is written
  abbrev written : R.Handoff
  written = record { id = id; number = at w 0; body = body; sent = false; acknowledged = false }

  next_in : at w 0 ≡ s.outbox.next
  unfolding opened_of
  next_in = refl

  hands_over : {w₁ b₁ w₂ b₂ : List ℕ} → HandedIn (some written) w₁ b₁ w₂ b₂ → HandsOver id s.outbox.next body (handoff_in w₂ b₂)
  hands_over {w₂ = w₂} {b₂ = b₂} g =
      subst (λ (n : ℕ). HandsOver id n body (handoff_in w₂ b₂)) next_in (record { is = g.handed.is; full = g.handed.full; size = g.handed.size })

  module _ (lh : length h ≡ 772) where
    hands : {w₁ h₁ b₁ : List ℕ} {o' : Bytes} (a : AllocatesIn body w h b o (Ok tt) w₁ h₁ b₁ o') → {w₂ b₂ : List ℕ} → HandedIn (some written) w₁ b₁ w₂ b₂
        → {y : LinkAnswer} {l' : List ℕ} → AsksIn (clock_in (raised h h₁) t) l y l' → (restoring : Bool)
        → ComesIn (commanding restoring (some c)) (parts w h b t) (parts w₂ (raised h h₁) b₂ t) l o y l' o'
    hands {w₁} {h₁} {b₁} a {w₂} {b₂} g {l' = l'} q restoring =
        let lw : 1296 ≤ length w = words-long w h b t k.full in
        let lb : 4936 ≤ length b = bytes-long w h b t k.full in
        let joined : SessionState = staged s.stage.disposition s.stage.setup (grown w h b t k lh a) in
        record {
          returned = record { session = handing (handoff_in w₂ b₂) joined; answer = Done; events = q.events };
          comes =
              Plain.handed_off restoring c absent (joins w h b t k lh a s.stage.disposition) (hands_over g)
              (record { is = refl; listed = subst (λ (x : Clock). Listed (asked x) l 0 l' q.events) (clock-raised w h b t lw lb lh a) q.listed });
          leaves =
              handed-leaves w₁ (raised h h₁) b₁ t (omega (arith, a.words.size)) (omega (arith, a.bytes.size)) g.words g.bytes
              ∙ ap (handing (handoff_in w₂ b₂)) (left w h b t lw lb lh a);
          answers = q.answers;
        }

    pub goes : {w₁ h₁ b₁ : List ℕ} {o' : Bytes} (j : Joined body w h b o w₁ h₁ b₁ o') → {w₂ b₂ : List ℕ} → HandedIn (some written) w₁ b₁ w₂ b₂
        → {y : LinkAnswer} {l' : List ℕ} → AsksIn (clock_in h₁ t) l y l' → (restoring : Bool)
        → ComesIn (commanding restoring (some c)) (parts w h b t) (parts w₂ h₁ b₂ t) l o y l' o'
    goes {w₁} {h₁} {b₁} {o'} j {w₂} {b₂} g {y} {l'} q restoring =
        subst (λ (x : List ℕ). ComesIn (commanding restoring (some c)) (parts w h b t) (parts w₂ x b₂ t) l o y l' o') (sym j.raises)
        (hands j.joins g (subst (λ (x : List ℕ). AsksIn (clock_in x t) l y l') j.raises q) restoring)
