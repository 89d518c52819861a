-- Enums as numbers: a stage out of its codes, and an answer as numbers. Assumes nothing.
use Rattle.std.specs.Prelude.{ℕ, Bool, true, not, ◌&&◌, eqb, leb, if◌then◌else◌}
use Rattle.rules.specs.declared.Answer.{Answer}
use Rattle.rules.specs.declared.Answer.TheVariants.{Done, Number, Flag, Prepared, Held, NotHeld, Refused}
use Rattle.rules.specs.declared.Terms.{Terms}
use Rattle.rules.specs.declared.Setup.{Setup}
use Rattle.rules.specs.declared.Setup.TheVariants as Setups
use Rattle.rules.specs.declared.ReceiveMode.TheVariants.{Raw}
use Rattle.rules.specs.Receiving.{mode_of}
use Rattle.rules.specs.Answers.{refusal_number, flag_value}
use Rattle.peer_session.specs.declared.Stage.{Stage}
use Rattle.parts.specs.declared.StageCodes.{StageCodes}
use Rattle.parts.specs.declared.LinkAnswer.{LinkAnswer}

-- ---- codes to enums

-- terms only of a setup that waits
abbrev pub plain_terms : StageCodes → Bool
plain_terms g = if eqb g.setup 1 then true else not g.initiator && eqb g.terms 0

-- the codes that calls leave
abbrev pub good_codes : StageCodes → Bool
good_codes g = leb g.setup 3 && (leb g.mode 4 && plain_terms g)

abbrev pub setup_of : ℕ → Terms → Setup
setup_of n t =
    if eqb n 1 then Setups.Waiting t else
    if eqb n 2 then Setups.Started else
    if eqb n 3 then Setups.Retired else
    Setups.None

-- a disposition that is none: no session that calls leave has it
abbrev pub bad_stage : StageCodes → Stage
bad_stage g = record { disposition = 255; setup = Setups.None; mode = Raw; failed = g.failed }

abbrev pub good_stage : StageCodes → Stage
good_stage g =
    record {
      disposition = g.disposition;
      setup = setup_of g.setup (record { number = g.terms; initiator = g.initiator });
      mode = mode_of g.mode;
      failed = g.failed;
    }

abbrev pub stage_of : StageCodes → Stage
stage_of g = if good_codes g then good_stage g else bad_stage g

-- ---- answers

abbrev pub handed : ℕ → ℕ → ℕ → ℕ → ℕ → ℕ → LinkAnswer
handed refusal kind value second third events =
    record { refusal = refusal; kind = kind; value = value; second = second; third = third; events = events }

abbrev pub answer_of : Answer → ℕ → LinkAnswer
answer_of Done n = handed 0 0 0 0 0 n
answer_of (Number k) n = handed 0 1 k 0 0 n
answer_of (Flag b) n = handed 0 2 (flag_value b) 0 0 n
answer_of (Prepared c) n = handed 0 3 c.generation c.outbound c.remote n
answer_of (Held start len) n = handed 0 4 start len 0 n
answer_of NotHeld n = handed 0 5 0 0 0 n
answer_of (Refused x) n = handed (refusal_number x) 6 0 0 0 n
