-- Codes to enums, test by test. Assumes nothing.
use mathlib.Core.Path.{◌≡◌, refl, ap, ◌∙◌}
use mathlib.Core.Bool.{Bool, true, false}
use Prim.Native.Nat.{ℕ, ◌≤◌}
use lib.Dec.{eqb}
use native.Mathlib.Omega.{arith}
use borrow.Author.Tests.{eq-eqb, ne_eqb, le-leb}
use Rattle.std.specs.Prelude.{Result, Ok, Err}
use Rattle.std.specs.Result.{result_unwrap_or}
use Rattle.rules.specs.declared.Refusal.{Refusal}
use Rattle.rules.specs.declared.Terms.{Terms}
use Rattle.rules.specs.declared.Setup.{Setup}
use Rattle.rules.specs.declared.Setup.TheVariants as Setups
use Rattle.rules.specs.declared.ReceiveMode.{ReceiveMode}
use Rattle.rules.specs.declared.ReceiveMode.TheVariants.{Retiring}
use Rattle.rules.specs.Answers.{flag_value}
use Rattle.rules.specs.Codes.{ReadsMode}
use Rattle.rules.specs.Receiving.{mode_of}
use Rattle.peer_session.specs.declared.Stage.{Stage}
use Rattle.parts.specs.declared.StageCodes.{StageCodes}
use Rattle.parts.specs.Codes.{good_codes, setup_of, stage_of}
use Rattle.parts.specs.Parts.{flag}

-- ---- tests

module _ (g : StageCodes) where
  module _ (a : g.setup ≤ 3) where
    module _ (b : g.mode ≤ 4) where
      pub waits : g.setup ≡ 1 → true ≡ good_codes g
      waits e = rw (le-leb g.setup 3 a, le-leb g.mode 4 b, eq-eqb g.setup 1 e)

      module _ (n : g.setup ≡ 1 → ⊥) where
        pub terms_decide : g.initiator ≡ false → eqb g.terms 0 ≡ good_codes g
        terms_decide e = rw (le-leb g.setup 3 a, le-leb g.mode 4 b, ne_eqb g.setup 1 n, e)

module _ (n : ℕ) (t : Terms) where
  pub setup-waiting : n ≡ 1 → Setups.Waiting t ≡ setup_of n t
  setup-waiting e = rw (eq-eqb n 1 e)

  module _ (a : n ≡ 1 → ⊥) where
    pub setup-started : n ≡ 2 → Setups.Started ≡ setup_of n t
    setup-started e = rw (ne_eqb n 1 a, eq-eqb n 2 e)

    module _ (b : n ≡ 2 → ⊥) where
      pub setup-retired : n ≡ 3 → Setups.Retired ≡ setup_of n t
      setup-retired e = rw (ne_eqb n 1 a, ne_eqb n 2 b, eq-eqb n 3 e)

      pub setup-none : (n ≡ 3 → ⊥) → Setups.None ≡ setup_of n t
      setup-none d = rw (ne_eqb n 1 a, ne_eqb n 2 b, ne_eqb n 3 d)

-- ---- flags

-- a flag that is written is read
pub flag_read : (t : Bool) → flag (flag_value t) ≡ t
flag_read true = refl
flag_read false = refl

-- ---- modes

-- a code above those of the list is the last
pub mode_read : (n : ℕ) (r : Result ReceiveMode Refusal) → ReadsMode n r → result_unwrap_or r Retiring ≡ mode_of n
mode_read n (Ok m) h = h.1
mode_read n (Err x) h = rw (ne_eqb n 0 (λ e. omega (arith, e, h.1)), ne_eqb n 1 (λ e. omega (arith, e, h.1)), ne_eqb n 2 (λ e. omega (arith, e, h.1)), ne_eqb n 3 (λ e. omega (arith, e, h.1)))

-- ---- stages

module _ (g : StageCodes) where
  pub disposition_bad : good_codes g ≡ false → 255 ≡ (stage_of g).disposition
  disposition_bad e = rw e

  pub stage-good : good_codes g ≡ true → {s : Setup} {m : ReceiveMode} → s ≡ setup_of g.setup (record { number = g.terms; initiator = g.initiator }) → m ≡ mode_of g.mode
      → ◌≡◌ {A = Stage} (record { disposition = g.disposition; setup = s; mode = m; failed = g.failed }) (stage_of g)
  stage-good e {s} {m} a b =
      ap (λ (x : Setup). record { disposition = g.disposition; setup = x; mode = m; failed = g.failed }) a
      ∙ ap (λ (x : ReceiveMode). record { disposition = g.disposition; setup = setup_of g.setup (record { number = g.terms; initiator = g.initiator }); mode = x; failed = g.failed }) b
      ∙ rw e
