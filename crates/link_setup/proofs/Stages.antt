-- The stage that the parts hold, and the session with another one. Assumes nothing.
use Prim.Native.Nat.{ℕ, ◌≤◌, ◌<◌}
use mathlib.Core.Path.{◌≡◌, refl, sym, ap, ◌∙◌}
use mathlib.Core.Bool.{Bool, true, false, ◌&&◌, true≢false}
use mathlib.Core.List.{List}
use native.Mathlib.Omega.{arith}
use lib.Dec.{leb, eqb}
use lib.Ieee.{Float}
use lib.ListN.{length, set, length-set}
use lib.Seq.{get_or-set_same, get_or-set_other}
use borrow.Author.Tests.{leb-true, eqb-true, eqb-false}
use Rattle.std.proofs.lemmas.Bool.{and_parts}
use Rattle.rules.specs.declared.Terms.{Terms}
use Rattle.rules.specs.declared.Setup.{Setup}
use Rattle.rules.specs.declared.Setup.TheVariants.{None, Waiting, Started, Retired}
use Rattle.rules.specs.Answers.{flag_value}
use Rattle.rules.specs.Setup.{is_none}
use Rattle.rules.specs.Receiving.{mode_of}
use Rattle.peer_session.specs.declared.Stage.{Stage}
use Rattle.peer_session.specs.declared.SessionState.{SessionState}
use Rattle.peer_session.specs.Sound.{Checked}
use Rattle.setup.specs.Steps.{staged}
use Rattle.parts.specs.declared.StageCodes.{StageCodes}
use Rattle.parts.specs.Codes.{good_codes, good_stage, plain_terms, stage_of}
use Rattle.parts.specs.Parts.{parts, at, flag, codes_in, opened_of}
use Rattle.parts.proofs.Fields.{Agree, agree_within, agree_set, agree_then, outbox-same, queue-same, clock-same, handoff-same, reject-same}
use Rattle.parts.proofs.After.{agree_all}
use Rattle.parts.proofs.Opened.{opened_as}
use Rattle.link_codes.proofs.Enums.{waits, terms_decide, setup-waiting, setup-started, setup-retired, setup-none, flag_read, stage-good}
use Rattle.link_setup.specs.Steps.{Stages}

-- ---- what good codes say

module _ (g : StageCodes) (good : good_codes g ≡ true) where
  pub low-setup : g.setup ≤ 3
  low-setup = leb-true _ _ (and_parts (leb g.setup 3) (leb g.mode 4 && plain_terms g) good).0

  pub low-mode : g.mode ≤ 4
  low-mode = leb-true _ _ (and_parts (leb g.mode 4) (plain_terms g) (and_parts (leb g.setup 3) (leb g.mode 4 && plain_terms g) good).1).0

  pub stage_is : stage_of g ≡ good_stage g
  stage_is = sym (stage-good g good refl refl)

  -- by the code of the setup
  abbrev terms_of_stage : Terms
  terms_of_stage = record { number = g.terms; initiator = g.initiator }

  pub is-fresh : g.setup ≡ 0 → (stage_of g).setup ≡ None
  is-fresh e =
      ap (λ (x : Stage). x.setup) stage_is ∙ sym (setup-none g.setup terms_of_stage (λ k. omega (arith, k)) (λ k. omega (arith, k)) (λ k. omega (arith, k)))

  pub is-waiting : g.setup ≡ 1 → (stage_of g).setup ≡ Waiting terms_of_stage
  is-waiting e = ap (λ (x : Stage). x.setup) stage_is ∙ sym (setup-waiting g.setup terms_of_stage e)

  pub is-started : g.setup ≡ 2 → (stage_of g).setup ≡ Started
  is-started e = ap (λ (x : Stage). x.setup) stage_is ∙ sym (setup-started g.setup terms_of_stage (λ k. omega (arith, k)) e)

  pub is_retired : g.setup ≡ 3 → (stage_of g).setup ≡ Retired
  is_retired e = ap (λ (x : Stage). x.setup) stage_is ∙ sym (setup-retired g.setup terms_of_stage (λ k. omega (arith, k)) (λ k. omega (arith, k)) e)

  pub not_fresh : (g.setup ≡ 0 → ⊥) → is_none (stage_of g).setup ≡ false
  not_fresh n = one (eqb g.setup 1) refl
    where
      beyond : (x : Bool) → (g.setup ≡ 1 → ⊥) → eqb g.setup 2 ≡ x → is_none (stage_of g).setup ≡ false
      beyond true m e = ap is_none (is-started (eqb-true g.setup 2 e))
      beyond false m e =
          let k : g.setup ≡ 2 → ⊥ = eqb-false g.setup 2 e in
          let l : g.setup ≤ 3 = low-setup in
          ap is_none (is_retired (omega arith))

      one : (x : Bool) → eqb g.setup 1 ≡ x → is_none (stage_of g).setup ≡ false
      one true e = ap is_none (is-waiting (eqb-true g.setup 1 e))
      one false e = beyond (eqb g.setup 2) (eqb-false g.setup 1 e) refl

-- ---- another stage, all else as it was

pub record Restaged (h b h' b' : List ℕ) : Type 0 where
  pub size : length b' ≡ length b
  pub halves : Agree 0 771 h h'
  pub low : Agree 0 768 b b'
  pub high : Agree 773 4936 b b'

-- s's stage under disposition d, with setup x
abbrev pub under : ℕ → Setup → Stage → Stage
under d x s = record { disposition = d; setup = x; mode = s.mode; failed = s.failed }

module _ (w h b h' b' : List ℕ) (t : Float) (lb : 4936 ≤ length b) (r : Restaged h b h' b') where
  pub restaged : (d : ℕ) (x : Setup) → stage_of (codes_in h' b') ≡ under d x (stage_of (codes_in h b)) → opened_of (parts w h' b' t) ≡ staged d x (opened_of (parts w h b t))
  unfolding opened_of
  restaged d x e =
      opened_as w h' b' t
      (outbox-same (agree_all 0 2 w) (agree_within (omega arith) (omega arith) r.halves) (agree_within (omega arith) (omega arith) r.low))
      refl
      refl
      (queue-same (agree_all 4 5 w) (agree_all 16 272 w) (agree_within (omega arith) (omega arith) r.halves) (agree_within (omega arith) (omega arith) r.low))
      refl
      refl
      (clock-same t (agree_within (omega arith) (omega arith) r.halves))
      e
      (handoff-same (omega arith) r.size (agree_all 7 10 w) (agree_within (omega arith) (omega arith) r.high))
      refl
      (reject-same lb r.size (agree_all 14 15 w) (agree_within (omega arith) (omega arith) r.high))

-- ---- what `stage` writes

module _ (h b : List ℕ) (lh : length h ≡ 772) (lb : 4936 ≤ length b) (good : good_codes (codes_in h b) ≡ true) where
  module _ {d c : ℕ} {terms : Terms} {h' b' : List ℕ} (s : Stages d c terms h b h' b') where
    abbrev b₁ : List ℕ
    b₁ = set b 768 d

    abbrev b₂ : List ℕ
    b₂ = set b₁ 769 c

    abbrev i : ℕ
    i = flag_value terms.initiator

    agrees : (x y : ℕ) → (x ≤ 768 → 768 < y → ⊥) → (x ≤ 769 → 769 < y → ⊥) → (x ≤ 770 → 770 < y → ⊥) → Agree x y b (set b₂ 770 i)
    agrees x y p q r = agree_then (agree_then (agree_set b 768 d x y p) (agree_set b₁ 769 c x y q)) (agree_set b₂ 770 i x y r)

    pub stages_apart : Restaged h b h' b'
    stages_apart =
        rw (s.halves, s.bytes)
        (record {
          size = length-set b₂ 770 i ∙ length-set b₁ 769 c ∙ length-set b 768 d;
          halves = agree_set h 771 terms.number 0 771 (λ p q. omega arith);
          low = agrees 0 768 (λ p q. omega arith) (λ p q. omega arith) (λ p q. omega arith);
          high = agrees 773 4936 (λ p q. omega arith) (λ p q. omega arith) (λ p q. omega arith);
        })

    abbrev codes : StageCodes
    codes = record { terms = terms.number; disposition = d; setup = c; initiator = terms.initiator; mode = at b 771; failed = flag (at b 772) }

    codes_are : codes_in h' b' ≡ codes
    codes_are =
        let n : at (set h 771 terms.number) 771 ≡ terms.number = get_or-set_same h 771 terms.number 0 (omega arith) in
        let l₁ : length b₁ ≡ length b = length-set b 768 d in
        let l₂ : length b₂ ≡ length b = length-set b₁ 769 c ∙ l₁ in
        let x : at (set b₂ 770 i) 768 ≡ d = get_or-set_other b₂ 770 768 i 0 (λ e. omega (arith, e)) ∙ get_or-set_other b₁ 769 768 c 0 (λ e. omega (arith, e)) ∙ get_or-set_same b 768 d 0 (omega arith) in
        let y : at (set b₂ 770 i) 769 ≡ c = get_or-set_other b₂ 770 769 i 0 (λ e. omega (arith, e)) ∙ get_or-set_same b₁ 769 c 0 (omega arith) in
        let z : at (set b₂ 770 i) 770 ≡ i = get_or-set_same b₂ 770 i 0 (omega arith) in
        let g : Agree 771 773 b (set b₂ 770 i) = agrees 771 773 (λ p q. omega arith) (λ p q. omega arith) (λ p q. omega arith) in
        let m : at (set b₂ 770 i) 771 ≡ at b 771 = g.same 771 (omega arith) (omega arith) in
        let f : at (set b₂ 770 i) 772 ≡ at b 772 = g.same 772 (omega arith) (omega arith) in
        rw (s.halves, s.bytes, n, x, y, z, m, f, flag_read)

    stage-after : {x : Setup} → stage_of codes ≡ record { disposition = d; setup = x; mode = mode_of (at b 771); failed = flag (at b 772) } → stage_of (codes_in h' b') ≡ under d x (stage_of (codes_in h b))
    stage-after {x} e = ap stage_of codes_are ∙ e ∙ sym (ap (under d x) (stage_is (codes_in h b) good))

  pub stage-waits : {d : ℕ} {terms : Terms} {h' b' : List ℕ} → Stages d 1 terms h b h' b' → stage_of (codes_in h' b') ≡ under d (Waiting terms) (stage_of (codes_in h b))
  stage-waits {d} {terms} s =
      stage-after s (sym (stage-good (codes s) (sym (waits (codes s) (omega arith) (low-mode (codes_in h b) good) refl)) (setup-waiting 1 terms refl) refl))

  pub stage-retires : {d : ℕ} {h' b' : List ℕ} → Stages d 3 (record { number = 0; initiator = false }) h b h' b'
      → stage_of (codes_in h' b') ≡ under d Retired (stage_of (codes_in h b))
  stage-retires {d} s =
      stage-after s
      (sym (stage-good (codes s) (sym (terms_decide (codes s) (omega arith) (low-mode (codes_in h b) good) (λ e. omega (arith, e)) refl)) (setup-retired 3 (record { number = 0; initiator = false }) (λ e. omega (arith, e)) (λ e. omega (arith, e)) refl) refl))

  pub stage-starts : {d : ℕ} {h' b' : List ℕ} → Stages d 2 (record { number = 0; initiator = false }) h b h' b'
      → stage_of (codes_in h' b') ≡ under d Started (stage_of (codes_in h b))
  stage-starts {d} s =
      stage-after s
      (sym (stage-good (codes s) (sym (terms_decide (codes s) (omega arith) (low-mode (codes_in h b) good) (λ e. omega (arith, e)) refl)) (setup-started 2 (record { number = 0; initiator = false }) (λ e. omega (arith, e)) refl) refl))

-- ---- another disposition only

pub disposition_apart : (h b : List ℕ) (d : ℕ) → Restaged h b h (set b 768 d)
disposition_apart h b d =
    record {
      size = length-set b 768 d;
      halves = agree_all 0 771 h;
      low = agree_set b 768 d 0 768 (λ p q. omega arith);
      high = agree_set b 768 d 773 4936 (λ p q. omega arith);
    }

pub stage_disposed : (h b : List ℕ) (d : ℕ) → 4936 ≤ length b → good_codes (codes_in h b) ≡ true
    → stage_of (codes_in h (set b 768 d)) ≡ under d (stage_of (codes_in h b)).setup (stage_of (codes_in h b))
stage_disposed h b d lb good =
    let g : Agree 769 773 b (set b 768 d) = agree_set b 768 d 769 773 (λ p q. omega arith) in
    let x : at (set b 768 d) 768 ≡ d = get_or-set_same b 768 d 0 (omega arith) in
    let y : at (set b 768 d) 769 ≡ at b 769 = g.same 769 (omega arith) (omega arith) in
    let i : at (set b 768 d) 770 ≡ at b 770 = g.same 770 (omega arith) (omega arith) in
    let m : at (set b 768 d) 771 ≡ at b 771 = g.same 771 (omega arith) (omega arith) in
    let f : at (set b 768 d) 772 ≡ at b 772 = g.same 772 (omega arith) (omega arith) in
    let k : StageCodes = record { terms = at h 771; disposition = d; setup = at b 769; initiator = flag (at b 770); mode = at b 771; failed = flag (at b 772) } in
    let e : codes_in h (set b 768 d) ≡ k = rw (x, y, i, m, f) in
    ap stage_of e ∙ stage_is k good ∙ sym (ap (λ (z : Stage). under d z.setup z) (stage_is (codes_in h b) good))

-- a test has one answer
pub never : {A : Type 0} {x : Bool} → x ≡ true → x ≡ false → A
never p q = absurd (true≢false (sym p ∙ q))

-- what a test of soundness found, by its answer
pub found-sound : {s : SessionState} {r : Bool} → Checked s r → r ≡ true → Checked s true
found-sound k e = record { is = sym e ∙ k.is; full = k.full }
