-- A retire on the parts of a session, by what it leaves of them. Assumes nothing.
use Prim.Native.Nat.{ℕ, ◌+◌, ◌≤◌, ◌<◌}
use mathlib.Core.Path.{◌≡◌, refl, sym, ap, ◌∙◌, subst}
use mathlib.Core.Bool.{Bool, true, false, ◌&&◌}
use mathlib.Core.List.{List, []}
use native.Mathlib.Omega.{arith}
use lib.Dec.{eqb}
use lib.Ieee.{Float, nan}
use lib.ListN.{length, set, length-set}
use lib.Seq.{get_or-set_same, get_or-set_other}
use Rattle.rules.specs.declared.Answer.TheVariants.{Flag}
use Rattle.rules.specs.declared.Setup.TheVariants.{Retired}
use Rattle.rules.specs.Lists.{Bytes}
use Rattle.rules.specs.Calls.{retires}
use Rattle.outbox.specs.View.{ExactOutbox}
use Rattle.queue.specs.declared.Queue.{Queue}
use Rattle.queue.specs.View.{ExactQueue, Repacked}
use Rattle.peer_session.specs.declared.SessionState.{SessionState}
use Rattle.peer_session.specs.Sound.{Checked}
use Rattle.session.specs.Promise.{CalledWithStoresAlone}
use Rattle.setup.specs.Steps.{staged, Retires, Forgets}
use Rattle.setup.proofs.Retires.{retires-is, forgets-is, retained, forgot, still_exact}
use Rattle.parts.specs.declared.LinkAnswer.{LinkAnswer}
use Rattle.parts.specs.Codes.{answer_of, stage_of}
use Rattle.parts.specs.Parts.{parts, at, section, outbox_in, queue_in, waiting_in, retry_in, clock_in, codes_in, handoff_in, opened_of}
use Rattle.parts.specs.Driven.{Driven}
use Rattle.parts.proofs.Fields.{Agree, agree_within, agree_past, agree_set, agree_then, outbox-same, queue-same, numbers-same, section-same, policy-same, handoff-same, reject-same, codes_same}
use Rattle.parts.proofs.Opened.{opened_as}
use Rattle.parts.proofs.After.{agree_all}
use Rattle.parts.proofs.Drives.{changes}
use Rattle.link_queue.specs.Steps.{Requeued}
use Rattle.link_sound.proofs.Lengths.{bytes-long}
use Rattle.link_draining.specs.Steps.{Discards}
use Rattle.link_sound.proofs.Parts.{usable}
use Rattle.link_setup.specs.Steps.{Stages}
use Rattle.link_retires.specs.Steps.{Retiring, RetiresIn, ForgetsIn}
use Rattle.link_setup.proofs.Stages.{Restaged, stage_is, restaged, stages_apart, stage-retires}

-- ---- no handoff, and an empty queue

module _ (w h b : List ℕ) (q : Bytes) (ready : Retiring w h b (length q)) where
  -- the queue does not depend on the time of the last replay
  pub exact-queue : ExactQueue (queue_in w h b) (length q)
  exact-queue = (usable w h b nan (ready.checked nan)).queued q ready.room

  module _ (lh : length h ≡ 772) {w' : List ℕ} {q' : Bytes} (r : Requeued [] w h b q w' h b q') {h' b₁ : List ℕ} (s : Stages (at b 768) 3 (record { number = 0; initiator = false }) h b h' b₁)
      (t : Float) where
    abbrev k : Checked (opened_of (parts w h b t)) true
    k = ready.checked t

    abbrev b' : List ℕ
    b' = set b₁ 775 0

    lw : 1296 ≤ length w
    lw = (usable w h b t k).words

    lb : 4936 ≤ length b
    lb = bytes-long w h b t k.full

    apart : Restaged h b h' b₁
    apart = stages_apart h b lh lb (usable w h b t k).codes s

    l₁ : 4936 ≤ length b₁
    l₁ = omega (arith, apart.size, lb)

    low : (x y : ℕ) → y ≤ 16 → (x ≤ 4 → 4 < y → ⊥) → Agree x y w w'
    low x y l out = record { same = λ i hi hj. r.only.below i (omega arith) (λ e. out (omega (arith, e)) (omega (arith, e))) }

    high : (x y : ℕ) → 272 ≤ x → Agree x y w w'
    high x y l = record { same = λ i hi hj. r.only.above i (omega arith) }

    same-disposition : at b 768 ≡ (opened_of (parts w h b t)).stage.disposition
    unfolding opened_of
    same-disposition = rw (stage_is (codes_in h b) (usable w h b t k).codes)

    restages : opened_of (parts w h' b₁ t) ≡ staged (opened_of (parts w h b t)).stage.disposition Retired (opened_of (parts w h b t))
    restages =
        restaged w h b h' b₁ t lb apart (at b 768) Retired (stage-retires h b lh lb (usable w h b t k).codes s)
        ∙ ap (λ (d : ℕ). staged d Retired (opened_of (parts w h b t))) same-disposition

    no_handoff : handoff_in w' b'
        ≡ record { body = (handoff_in w b₁).body; len = at w 7; id = at w 8; number = at w 9; sent = (handoff_in w b₁).sent; acknowledged = (handoff_in w b₁).acknowledged; present = false }
    no_handoff =
        let f : Agree 773 775 b₁ b' = agree_set b₁ 775 0 773 775 (λ p q. omega arith) in
        let n : at w' 7 ≡ at w 7 = r.only.below 7 (omega arith) (λ e. omega (arith, e)) in
        let i : at w' 8 ≡ at w 8 = r.only.below 8 (omega arith) (λ e. omega (arith, e)) in
        let m : at w' 9 ≡ at w 9 = r.only.below 9 (omega arith) (λ e. omega (arith, e)) in
        let x : at b' 773 ≡ at b₁ 773 = f.same 773 (omega arith) (omega arith) in
        let a : at b' 774 ≡ at b₁ 774 = f.same 774 (omega arith) (omega arith) in
        let p : at b' 775 ≡ 0 = get_or-set_same b₁ 775 0 0 (omega (arith, l₁)) in
        let z : section 776 4096 b' ≡ section 776 4096 b₁ =
        section-same 776 4096 b₁ b' (omega (arith, l₁)) (length-set b₁ 775 0) (agree_set b₁ 775 0 776 (776 + 4096) (λ y z. omega arith)) in
        rw (n, i, m, x, a, p, z)

    -- the setup and the handoff lie apart from the queue
    same-queue : queue_in w' h' b' ≡ queue_in w' h b
    same-queue =
        queue-same (agree_all 4 5 w') (agree_all 16 272 w') (agree_within (omega arith) (omega arith) apart.halves)
        (agree_then (agree_within (omega arith) (omega arith) apart.low) (agree_set b₁ 775 0 512 768 (λ x y. omega arith)))

    pub retires_in : Retires (opened_of (parts w h b t)) q (opened_of (parts w' h' b' t)) q'
    unfolding opened_of
    retires_in =
        subst (λ (z : SessionState). Retires (opened_of (parts w h b t)) q z q')
        (sym (opened_as w' h' b' t (outbox-same (low 0 2 (omega arith) (λ x y. omega arith)) (agree_all 0 512 h') (agree_set b₁ 775 0 0 512 (λ p q. omega arith))) (r.only.below 2 (omega arith) (λ e. omega (arith, e))) (r.only.below 3 (omega arith) (λ e. omega (arith, e))) refl (numbers-same (omega (arith, lw)) r.only.words (low 5 (5 + 1) (omega arith) (λ x y. omega arith)) (high 272 (272 + 512) (omega arith))) (numbers-same (omega (arith, lw)) r.only.words (low 6 (6 + 1) (omega arith) (λ x y. omega arith)) (high 784 (784 + 512) (omega arith))) refl (ap stage_of (codes_same (agree_all 771 772 h') (agree_set b₁ 775 0 768 773 (λ p q. omega arith)))) no_handoff (policy-same (low 10 14 (omega arith) (λ x y. omega arith))) (reject-same l₁ (length-set b₁ 775 0) (low 14 15 (omega arith) (λ x y. omega arith)) (agree_set b₁ 775 0 4872 4936 (λ p q. omega arith)))))
        (retires-is (opened_of (parts w h b t)) q (opened_of (parts w h' b₁ t)) (queue_in w' h' b') q'
        (subst (λ (z : Queue). Repacked (queue_in w h b) q [] z q') (sym same-queue) r.repacked) restages)

-- ---- everything under way is forgotten

module _ (w h b : List ℕ) (o o' : Bytes) (w₁ : List ℕ) (gone : Discards w h b o w₁ o') (lw : length w ≡ 1296) (lh : length h ≡ 772) (lb : length b ≡ 4936) where
  abbrev w₂ : List ℕ
  w₂ = set (set w₁ 5 0) 6 0

  abbrev h₁ : List ℕ
  h₁ = set (set h 769 (at h 768)) 770 (at h 768)

  after : (c d : ℕ) → (c ≤ 5 → 5 < d → ⊥) → (c ≤ 6 → 6 < d → ⊥) → Agree c d w₁ w₂
  after c d y z = agree_then (agree_set w₁ 5 0 c d y) (agree_set (set w₁ 5 0) 6 0 c d z)

  words : (c d : ℕ) → 2 ≤ c → (c ≤ 5 → 5 < d → ⊥) → (c ≤ 6 → 6 < d → ⊥) → Agree c d w w₂
  words c d x y z = agree_then (agree_past c d x gone.words) (after c d y z)

  halves : (c d : ℕ) → (c ≤ 769 → 769 < d → ⊥) → (c ≤ 770 → 770 < d → ⊥) → Agree c d h h₁
  halves c d x y = agree_then (agree_set h 769 (at h 768) c d x) (agree_set (set h 769 (at h 768)) 770 (at h 768) c d y)

  size : length w₂ ≡ length w
  size = length-set (set w₁ 5 0) 6 0 ∙ length-set w₁ 5 0 ∙ gone.words.size

  no_messages : outbox_in w₂ h₁ b ≡ outbox_in w₁ h b
  no_messages = outbox-same (after 0 2 (λ p q. omega arith) (λ p q. omega arith)) (halves 0 512 (λ p q. omega arith) (λ p q. omega arith)) (agree_all 0 512 b)

  none-waiting : waiting_in w₂ ≡ record { values = section 272 512 w; count = 0 }
  none-waiting =
      let c : at w₂ 5 ≡ 0 = get_or-set_other (set w₁ 5 0) 6 5 0 0 (λ e. omega (arith, e)) ∙ get_or-set_same w₁ 5 0 0 (omega (arith, gone.words.size)) in
      let r : section 272 512 w₂ ≡ section 272 512 w =
      section-same 272 512 w w₂ (omega arith) size (words 272 (272 + 512) (omega arith) (λ p q. omega arith) (λ p q. omega arith)) in
      rw (c, r)

  no_retries : retry_in w₂ ≡ record { values = section 784 512 w; count = 0 }
  no_retries =
      let c : at w₂ 6 ≡ 0 = get_or-set_same (set w₁ 5 0) 6 0 0 (omega (arith, length-set w₁ 5 0, gone.words.size)) in
      let r : section 784 512 w₂ ≡ section 784 512 w =
      section-same 784 512 w w₂ (omega arith) size (words 784 (784 + 512) (omega arith) (λ p q. omega arith) (λ p q. omega arith)) in
      rw (c, r)

  settled : (t : Float) → clock_in h₁ t ≡ record { last_replay_at = t; generation = at h 768; released = at h 768; persisted = at h 768 }
  settled t =
      let x : at h₁ 768 ≡ at h 768 = (halves 768 769 (λ p q. omega arith) (λ p q. omega arith)).same 768 (omega arith) (omega arith) in
      let y : at h₁ 769 ≡ at h 768 = get_or-set_other (set h 769 (at h 768)) 770 769 (at h 768) 0 (λ e. omega (arith, e)) ∙ get_or-set_same h 769 (at h 768) 0 (omega arith) in
      let z : at h₁ 770 ≡ at h 768 = get_or-set_same (set h 769 (at h 768)) 770 (at h 768) 0 (omega (arith, length-set h 769 (at h 768))) in
      rw (x, y, z)

  pub forgets_in : (t : Float) → Forgets (opened_of (parts w h b t)) o (opened_of (parts w₂ h₁ b t)) o'
  unfolding opened_of
  forgets_in t =
      subst (λ (z : SessionState). Forgets (opened_of (parts w h b t)) o z o')
      (sym (opened_as w₂ h₁ b t no_messages ((words 2 3 (omega arith) (λ p q. omega arith) (λ p q. omega arith)).same 2 (omega arith) (omega arith)) ((words 3 4 (omega arith) (λ p q. omega arith) (λ p q. omega arith)).same 3 (omega arith) (omega arith)) (queue-same (words 4 5 (omega arith) (λ p q. omega arith) (λ p q. omega arith)) (words 16 272 (omega arith) (λ p q. omega arith) (λ p q. omega arith)) (halves 512 768 (λ p q. omega arith) (λ p q. omega arith)) (agree_all 512 768 b)) none-waiting no_retries (settled t) (ap stage_of (codes_same (halves 771 772 (λ p q. omega arith) (λ p q. omega arith)) (agree_all 768 773 b))) (handoff-same (omega arith) refl (words 7 10 (omega arith) (λ p q. omega arith) (λ p q. omega arith)) (agree_all 773 4872 b)) (policy-same (words 10 14 (omega arith) (λ p q. omega arith) (λ p q. omega arith))) (reject-same (omega arith) refl (words 14 15 (omega arith) (λ p q. omega arith) (λ p q. omega arith)) (agree_all 4872 4936 b))))
      (forgets-is (opened_of (parts w h b t)) o (outbox_in w₁ h b) o' gone.left)

-- ---- the call

module _ (retain : Bool) (w h b : List ℕ) (t : Float) (o q : Bytes) (lo : 65536 ≤ length o) (lq : 32768 ≤ length q) (k : Checked (opened_of (parts w h b t)) true)
    {w₂ h₂ b₂ : List ℕ} {q' : Bytes} (a : RetiresIn w h b q w₂ h₂ b₂ q') where
  disposition_in : at b 768 ≡ (opened_of (parts w h b t)).stage.disposition
  unfolding opened_of
  disposition_in = rw (stage_is (codes_in h b) (usable w h b t k).codes)

  tested : {x : Bool} → x ≡ (retain && eqb (at b 768) 4) → {z : Bool} → x ≡ z → (retain && eqb (opened_of (parts w h b t)).stage.disposition 4) ≡ z
  tested e f = ap (λ (d : ℕ). retain && eqb d 4) (sym disposition_in) ∙ sym e ∙ f

  pub keeps : {x : Bool} → x ≡ (retain && eqb (at b 768) 4) → x ≡ true → {y : LinkAnswer} → y ≡ answer_of (Flag true) 0
      → Driven (parts w h b t) (parts w₂ h₂ b₂ t) y (λ s r. CalledWithStoresAlone (retires retain) s o q r o q')
  keeps e f z =
      changes (parts w h b t) (sym k.is) (parts w₂ h₂ b₂ t) _ refl (Flag true) 0 z
      (λ l d. retained retain (opened_of (parts w h b t)) l d o q lo lq (sym k.is) k.full (a.retires t) (tested e f))

  -- what is left to forget is the outbox that there was
  pub left-exact : ExactOutbox (outbox_in w₂ h₂ b₂) (length o)
  unfolding opened_of
  left-exact = still_exact (a.retires t) ((usable w h b t k).unacked o lo)

  pub forgets : {x : Bool} → x ≡ (retain && eqb (at b 768) 4) → x ≡ false → {w₃ h₃ : List ℕ} {o' : Bytes} → ForgetsIn w₂ h₂ b₂ o w₃ h₃ o' → {y : LinkAnswer}
      → y ≡ answer_of (Flag false) 0 → Driven (parts w h b t) (parts w₃ h₃ b₂ t) y (λ s r. CalledWithStoresAlone (retires retain) s o q r o' q')
  forgets e f {w₃} {h₃} {o'} g z =
      changes (parts w h b t) (sym k.is) (parts w₃ h₃ b₂ t) _ refl (Flag false) 0 z
      (λ l d. forgot retain (opened_of (parts w h b t)) l d o q lo lq (sym k.is) k.full (a.retires t) (tested e f) (g.forgets t))
