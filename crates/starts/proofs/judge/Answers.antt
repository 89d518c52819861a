use Rattle.rules.specs.Start.{Reliable, good_record, good_policy}
use Rattle.starts.specs.Started.{short_record}
use mathlib.Core.Path.{◌≡◌, sym, ◌∙◌}
use mathlib.Core.Bool.{Bool, true, false}
use Rattle.starts.specs.Records.{reliable_of}
use Rattle.starts.proofs.Checks.{found-code, found_record, found-policy, by_reject_body}
use Rattle.starts.proofs.judge.Goals as goal

pub returns-then-record : goal.returns-then-record
returns-then-record c = let short-of : Bool = short_record c.args.«record».numbers.now c.args.«record».lengths.now c.args.«record».bodies.now in let long : short-of ≡ false = sym c.short_record.ensures ∙ c.if-short_record.false in found-code _ _ _ (long) c.if-record.true

pub returns-then-not-good_record : goal.returns-then-not-good_record
returns-then-not-good_record c = let short-of : Bool = short_record c.args.«record».numbers.now c.args.«record».lengths.now c.args.«record».bodies.now in let long : short-of ≡ false = sym c.short_record.ensures ∙ c.if-short_record.false in let record_of : Reliable = reliable_of c.args.«record».reliable c.args.«record».numbers.now c.args.«record».lengths.now c.args.«record».bodies.now in let told : c.good_record.result ≡ good_record (record_of) = c.good_record.ensures c.args.«record».bodies.now (long) in found_record _ _ _ (long) c.if-record.false (sym (told) ∙ c.if-not-good_record.true)

pub returns-then-not-good_policy : goal.returns-then-not-good_policy
returns-then-not-good_policy c = let short-of : Bool = short_record c.args.«record».numbers.now c.args.«record».lengths.now c.args.«record».bodies.now in let long : short-of ≡ false = sym c.short_record.ensures ∙ c.if-short_record.false in let record_of : Reliable = reliable_of c.args.«record».reliable c.args.«record».numbers.now c.args.«record».lengths.now c.args.«record».bodies.now in let told : c.good_record.result ≡ good_record (record_of) = c.good_record.ensures c.args.«record».bodies.now (long) in let fine : good_record (record_of) ≡ true = sym (told) ∙ c.if-not-good_record.false in found-policy _ _ _ (long) c.if-record.false (fine) (sym c.good_policy.ensures ∙ c.if-not-good_policy.true)

pub returns-then-not-good_reject : goal.returns-then-not-good_reject
returns-then-not-good_reject c = let policed : good_policy c.args.policy ≡ true = sym c.good_policy.ensures ∙ c.if-not-good_policy.false in let short-of : Bool = short_record c.args.«record».numbers.now c.args.«record».lengths.now c.args.«record».bodies.now in let long : short-of ≡ false = sym c.short_record.ensures ∙ c.if-short_record.false in let record_of : Reliable = reliable_of c.args.«record».reliable c.args.«record».numbers.now c.args.«record».lengths.now c.args.«record».bodies.now in let told : c.good_record.result ≡ good_record (record_of) = c.good_record.ensures c.args.«record».bodies.now (long) in let fine : good_record (record_of) ≡ true = sym (told) ∙ c.if-not-good_record.false in
    sym
    (by_reject_body _ _ _ (long) c.if-record.false (fine) (policed) false
    (sym c.good_reject.ensures ∙ c.if-not-good_reject.true))

pub returns : goal.returns
returns c = let policed : good_policy c.args.policy ≡ true = sym c.good_policy.ensures ∙ c.if-not-good_policy.false in let short-of : Bool = short_record c.args.«record».numbers.now c.args.«record».lengths.now c.args.«record».bodies.now in let long : short-of ≡ false = sym c.short_record.ensures ∙ c.if-short_record.false in let record_of : Reliable = reliable_of c.args.«record».reliable c.args.«record».numbers.now c.args.«record».lengths.now c.args.«record».bodies.now in let told : c.good_record.result ≡ good_record (record_of) = c.good_record.ensures c.args.«record».bodies.now (long) in let fine : good_record (record_of) ≡ true = sym (told) ∙ c.if-not-good_record.false in
    sym
    (by_reject_body _ _ _ (long) c.if-record.false (fine) (policed) true
    (sym c.good_reject.ensures ∙ c.if-not-good_reject.false))
