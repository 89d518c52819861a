-- A session after a turn, in place. Assumes nothing.
use Prim.Native.Nat.{ℕ, ◌+◌, ◌≤◌, ◌<◌}
use mathlib.Core.Path.{◌≡◌, refl, sym, ap, ◌∙◌, subst}
use mathlib.Core.Bool.{true}
use mathlib.Core.List.{List}
use native.Mathlib.Omega.{arith}
use lib.Ieee.{Float}
use lib.ListN.{length, set, length-set}
use lib.Seq.{get_or-set_same, get_or-set_other}
use Rattle.rules.specs.declared.Clock.{Clock}
use Rattle.rules.specs.Lists.{Bytes}
use Rattle.outbox.specs.declared.Outbox.{Outbox}
use Rattle.peer_session.specs.declared.Stage.{Stage}
use Rattle.peer_session.specs.View.{reject_of}
use Rattle.delivery.specs.declared.Turn.{Turn}
use Rattle.draining.specs.Turns.{Settles, advanced}
use Rattle.parts.specs.declared.StageCodes.{StageCodes}
use Rattle.parts.specs.Codes.{good_codes, stage_of}
use Rattle.parts.specs.Parts.{parts, at, flag, outbox_in, waiting_in, clock_in, codes_in, reject_in, opened_of}
use Rattle.parts.proofs.Fields.{Agree, agree_past, agree_set, agree_then, outbox-same, queue-same, numbers-same, handoff-same, policy-same, reject-same}
use Rattle.parts.proofs.Opened.{opened_as}
use Rattle.link_draining.specs.Steps.{SettlesIn, Timed, AdvancesIn}
use Rattle.link_draining.proofs.Sessions.{stage_is}

module _ (t : Turn) (w h b : List ℕ) (c : Float) (o : Bytes) (lw : length w ≡ 1296) (lh : length h ≡ 772) (lb : length b ≡ 4936)
    (good : good_codes (codes_in h b) ≡ true) {w₁ h₁ b₁ : List ℕ} {o' : Bytes} (a : SettlesIn t w h b o w₁ h₁ b₁ o') where
  abbrev k : Clock
  k = t.clock

  abbrev w' : List ℕ
  w' = set w₁ 2 t.remote

  abbrev b' : List ℕ
  b' = set b₁ 768 t.disposition

  abbrev h₂ : List ℕ
  h₂ = set h₁ 768 k.generation

  abbrev h₃ : List ℕ
  h₃ = set h₂ 769 k.released

  abbrev h' : List ℕ
  h' = set h₃ 770 k.persisted

  words : (x y : ℕ) → 3 ≤ x → Agree x y w w'
  words x y l = agree_then (agree_past x y (omega arith) a.words) (agree_set w₁ 2 t.remote x y (λ p q. omega arith))

  bytes : (x y : ℕ) → 512 ≤ x → (x ≤ 768 → 768 < y → ⊥) → Agree x y b b'
  bytes x y l out = agree_then (agree_past x y l a.bytes) (agree_set b₁ 768 t.disposition x y out)

  clocks : (x y : ℕ) → (x < 771 → 768 < y → ⊥) → Agree x y h₁ h'
  clocks x y out =
      agree_then
      (agree_then (agree_set h₁ 768 k.generation x y (λ p q. out (omega arith) (omega arith))) (agree_set h₂ 769 k.released x y (λ p q. out (omega arith) (omega arith))))
      (agree_set h₃ 770 k.persisted x y (λ p q. out (omega arith) (omega arith)))

  halves : (x y : ℕ) → 512 ≤ x → (x < 771 → 768 < y → ⊥) → Agree x y h h'
  halves x y l out = agree_then (agree_past x y l a.halves) (clocks x y out)

  long-words : length w' ≡ length w
  long-words = length-set w₁ 2 t.remote ∙ a.words.size

  long-bytes : length b' ≡ length b
  long-bytes = length-set b₁ 768 t.disposition ∙ a.bytes.size

  clock_is : clock_in h' k.last_replay_at ≡ k
  clock_is =
      let l₁ : length h₁ ≡ 772 = a.halves.size ∙ lh in
      let l₂ : length h₂ ≡ 772 = length-set h₁ 768 k.generation ∙ l₁ in
      let l₃ : length h₃ ≡ 772 = length-set h₂ 769 k.released ∙ l₂ in
      let x : at h' 768 ≡ k.generation =
      get_or-set_other h₃ 770 768 k.persisted 0 (λ e. omega (arith, e)) ∙ get_or-set_other h₂ 769 768 k.released 0 (λ e. omega (arith, e)) ∙ get_or-set_same h₁ 768 k.generation 0 (omega arith) in
      let y : at h' 769 ≡ k.released = get_or-set_other h₃ 770 769 k.persisted 0 (λ e. omega (arith, e)) ∙ get_or-set_same h₂ 769 k.released 0 (omega arith) in
      let z : at h' 770 ≡ k.persisted = get_or-set_same h₃ 770 k.persisted 0 (omega arith) in
      rw (x, y, z)

  abbrev codes : StageCodes
  codes = record { terms = at h 771; disposition = t.disposition; setup = at b 769; initiator = flag (at b 770); mode = at b 771; failed = flag (at b 772) }

  codes_are : codes_in h' b' ≡ codes
  codes_are =
      let n : at h' 771 ≡ at h 771 = (halves 771 772 (omega arith) (λ p q. omega arith)).same 771 (omega arith) (omega arith) in
      let g : Agree 769 773 b b' = bytes 769 773 (omega arith) (λ p q. omega arith) in
      let d : at b' 768 ≡ t.disposition = get_or-set_same b₁ 768 t.disposition 0 (omega (arith, a.bytes.size)) in
      let s : at b' 769 ≡ at b 769 = g.same 769 (omega arith) (omega arith) in
      let i : at b' 770 ≡ at b 770 = g.same 770 (omega arith) (omega arith) in
      let m : at b' 771 ≡ at b 771 = g.same 771 (omega arith) (omega arith) in
      let f : at b' 772 ≡ at b 772 = g.same 772 (omega arith) (omega arith) in
      rw (n, d, s, i, m, f)

  still_good : good_codes (codes_in h' b') ≡ true
  still_good = ap good_codes codes_are ∙ good

  abbrev under : Stage → Stage
  under g = record { disposition = t.disposition; setup = g.setup; mode = g.mode; failed = g.failed }

  stage-after : stage_of (codes_in h' b') ≡ under (stage_of (codes_in h b))
  stage-after = ap stage_of codes_are ∙ stage_is codes good ∙ sym (ap under (stage_is (codes_in h b) good))

  outbox-after : outbox_in w' h' b' ≡ outbox_in w₁ h₁ b₁
  outbox-after =
      outbox-same (agree_set w₁ 2 t.remote 0 2 (λ p q. omega arith)) (clocks 0 512 (λ p q. omega arith)) (agree_set b₁ 768 t.disposition 0 512 (λ p q. omega arith))

  opens : opened_of (parts w' h' b' k.last_replay_at) ≡ advanced (opened_of (parts w h b c)) (outbox_in w' h' b') (waiting_in w) t
  unfolding opened_of
  opens =
      opened_as w' h' b' k.last_replay_at refl (get_or-set_same w₁ 2 t.remote 0 (omega (arith, a.words.size))) ((words 3 4 (omega arith)).same 3 (omega arith) (omega arith))
      (queue-same (words 4 5 (omega arith)) (words 16 272 (omega arith)) (halves 512 768 (omega arith) (λ p q. omega arith)) (bytes 512 768 (omega arith) (λ p q. omega arith)))
      (numbers-same (omega arith) long-words (words 5 (5 + 1) (omega arith)) (words 272 (272 + 512) (omega arith)))
      (numbers-same (omega arith) long-words (words 6 (6 + 1) (omega arith)) (words 784 (784 + 512) (omega arith)))
      clock_is
      stage-after
      (handoff-same (omega arith) long-bytes (words 7 10 (omega arith)) (bytes 773 4872 (omega arith) (λ p q. omega arith)))
      (policy-same (words 10 14 (omega arith)))
      (reject-same (omega arith) long-bytes (words 14 15 (omega arith)) (bytes 4872 4936 (omega arith) (λ p q. omega arith)))

  advances : AdvancesIn t (parts w h b c) o (parts w' h' b' k.last_replay_at) o'
  unfolding opened_of
  advances =
      record {
        advances = record { is = opens; settles = subst (λ (x : Outbox). Settles t (reject_of (reject_in w b)) (outbox_in w h b) o x o') (sym outbox-after) a.settles };
        codes = still_good;
      }

  pub advances_in : {h₄ : List ℕ} {c' : Float} → Timed k h₁ h₄ c' → AdvancesIn t (parts w h b c) o (parts w' h₄ b' c') o'
  advances_in {h₄} {c'} s =
      subst (λ (x : Float). AdvancesIn t (parts w h b c) o (parts w' h₄ b' x) o') (sym s.clock)
      (subst (λ (x : List ℕ). AdvancesIn t (parts w h b c) o (parts w' x b' k.last_replay_at) o') (sym s.halves) advances)
