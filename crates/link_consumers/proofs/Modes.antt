-- The session that the parts are with another mode. Assumes nothing.
use mathlib.Core.Path.{◌≡◌, refl, sym, ap, ◌∙◌}
use mathlib.Core.Bool.{true}
use mathlib.Core.List.{List}
use Prim.Native.Nat.{ℕ, ◌≤◌, ◌<◌}
use native.Mathlib.Omega.{arith}
use lib.Dec.{leb}
use lib.Ieee.{Float}
use lib.ListN.{length, set, length-set}
use lib.Seq.{get_or-set_same}
use borrow.Author.Tests.{le-leb}
use Rattle.std.proofs.lemmas.Bool.{and_parts}
use Rattle.rules.proofs.Lists.{and_both}
use Rattle.rules.specs.Receiving.{mode_of}
use Rattle.peer_session.specs.declared.Stage.{Stage}
use Rattle.consumers.specs.Modes.{with_mode}
use Rattle.parts.specs.declared.StageCodes.{StageCodes}
use Rattle.parts.specs.Codes.{good_codes, stage_of}
use Rattle.parts.specs.Parts.{parts, at, flag, codes_in, opened_of}
use Rattle.parts.proofs.Fields.{Agree, agree_set, outbox-same, queue-same, handoff-same, reject-same}
use Rattle.parts.proofs.Opened.{opened_as}
use Rattle.parts.proofs.After.{agree_all}
use Rattle.link_draining.proofs.Sessions.{stage_is}

module _ (w h b : List ℕ) (t : Float) (m : ℕ) (lb : 4936 ≤ length b) (known : m ≤ 4) (good : good_codes (codes_in h b) ≡ true) where
  abbrev b₁ : List ℕ
  b₁ = set b 771 m

  abbrev g₁ : StageCodes
  g₁ = record { terms = at h 771; disposition = at b 768; setup = at b 769; initiator = flag (at b 770); mode = m; failed = flag (at b 772) }

  bytes : (x y : ℕ) → (x ≤ 771 → 771 < y → ⊥) → Agree x y b b₁
  bytes x y out = agree_set b 771 m x y out

  codes : codes_in h b₁ ≡ g₁
  codes =
      let f : Agree 768 771 b b₁ = bytes 768 771 (λ x y. omega arith) in
      let d : at b₁ 768 ≡ at b 768 = f.same 768 (omega arith) (omega arith) in
      let s : at b₁ 769 ≡ at b 769 = f.same 769 (omega arith) (omega arith) in
      let i : at b₁ 770 ≡ at b 770 = f.same 770 (omega arith) (omega arith) in
      let k : at b₁ 771 ≡ m = get_or-set_same b 771 m 0 (omega arith) in
      let x : at b₁ 772 ≡ at b 772 = (bytes 772 773 (λ x y. omega arith)).same 772 (omega arith) (omega arith) in
      rw (d, s, i, k, x)

  good_now : good_codes g₁ ≡ true
  good_now =
      let a = and_parts (leb (at b 769) 3) _ good in
      and_both (leb (at b 769) 3) _ a.0 (and_both (leb m 4) _ (le-leb m 4 known) (and_parts (leb (at b 771) 4) _ a.1).1)

  pub good-after : good_codes (codes_in h b₁) ≡ true
  good-after = ap good_codes codes ∙ good_now

  stage : stage_of (codes_in h b₁)
      ≡ record { disposition = (stage_of (codes_in h b)).disposition; setup = (stage_of (codes_in h b)).setup; mode = mode_of m; failed = (stage_of (codes_in h b)).failed }
  stage =
      ap stage_of codes
      ∙ stage_is g₁ good_now
      ∙ sym (ap (λ (x : Stage). record { disposition = x.disposition; setup = x.setup; mode = mode_of m; failed = x.failed }) (stage_is (codes_in h b) good))

  pub with_its_mode : opened_of (parts w h b₁ t) ≡ with_mode (mode_of m) (opened_of (parts w h b t))
  unfolding opened_of
  with_its_mode =
      opened_as w h b₁ t (outbox-same (agree_all 0 2 w) (agree_all 0 512 h) (bytes 0 512 (λ x y. omega arith))) refl refl
      (queue-same (agree_all 4 5 w) (agree_all 16 272 w) (agree_all 512 768 h) (bytes 512 768 (λ x y. omega arith))) refl refl refl stage
      (handoff-same (omega arith) (length-set b 771 m) (agree_all 7 10 w) (bytes 773 4872 (λ x y. omega arith))) refl
      (reject-same lb (length-set b 771 m) (agree_all 14 15 w) (bytes 4872 4936 (λ x y. omega arith)))
