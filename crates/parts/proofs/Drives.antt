-- Ways to show that a call for C is the driver's call. Assumes nothing.
use Prim.Native.Nat.{ℕ}
use mathlib.Core.Path.{◌≡◌, refl, sym, ◌∙◌}
use mathlib.Core.Bool.{true, true≢false}
use Rattle.rules.specs.declared.Answer.{Answer}
use Rattle.rules.specs.declared.Answer.TheVariants.{Refused}
use Rattle.rules.specs.declared.Refusal.{Refusal}
use Rattle.peer_session.specs.declared.SessionState.{SessionState}
use Rattle.peer_session.specs.Sound.{sound_of}
use Rattle.session.specs.declared.Returned.{Returned}
use Rattle.session.specs.declared.Told.{Told}
use Rattle.session.specs.Promise.{Turned}
use Rattle.parts.specs.declared.LinkAnswer.{LinkAnswer}
use Rattle.parts.specs.Codes.{answer_of}
use Rattle.parts.specs.Parts.{Parts, opened_of}
use Rattle.parts.specs.Driven.{Driven, DrivenTold, DrivenAnswer}

module _ (p : Parts) {Call : SessionState → Returned → Type 0} where
  -- an answer that leaves the parts as they are
  pub leaves : (a : Answer) (n : ℕ) {y : LinkAnswer} → y ≡ answer_of a n → Call (opened_of p) (record { session = opened_of p; answer = a; events = n }) → Driven p p y Call
  leaves a n e h =
      record { returned = record { session = opened_of p; answer = a; events = n }; called = h; leaves = refl; answers = e; kept = λ k. refl }

  -- a refusal that changes nothing
  pub refuses : (x : Refusal) {y : LinkAnswer} → y ≡ answer_of (Refused x) 0 → ((r : Returned) → Turned (opened_of p) x r → Call (opened_of p) r) → Driven p p y Call
  refuses x e h =
      leaves (Refused x) 0 e
      (h (record { session = opened_of p; answer = Refused x; events = 0 }) (record { session = refl; answer = refl; events = refl }))

  -- parts that are session s now
  pub changes : sound_of (opened_of p) ≡ true → (p' : Parts) (s : SessionState) → opened_of p' ≡ s → (a : Answer) (n : ℕ) {y : LinkAnswer} → y ≡ answer_of a n
      → Call (opened_of p) (record { session = s; answer = a; events = n }) → Driven p p' y Call
  changes sound p' s is a n e h =
      record {
        returned = record { session = s; answer = a; events = n };
        called = h;
        leaves = is;
        answers = e;
        kept = λ k. absurd (true≢false (sym sound ∙ k));
      }

pub tells : (p : Parts) {Call : SessionState → Told → Type 0} (a : Answer) (n : ℕ) {y : LinkAnswer} → y ≡ answer_of a n
    → Call (opened_of p) (record { answer = a; events = n }) → DrivenTold p y Call
tells p a n e h = record { returned = record { answer = a; events = n }; called = h; answers = e }

pub answers : (p : Parts) {Call : SessionState → Answer → Type 0} (a : Answer) {y : LinkAnswer} → y ≡ answer_of a 0 → Call (opened_of p) a → DrivenAnswer p y Call
answers p a e h = record { returned = a; called = h; answers = e }
