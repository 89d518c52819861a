-- A call for C is the driver's call, on the session that the lent parts are; what C finds is what that call returns. Assumes nothing.
use Rattle.std.specs.Prelude.{◌≡◌, Bool, true, false}
use Rattle.rules.specs.declared.Answer.{Answer}
use Rattle.rules.specs.declared.Answer.TheVariants.{Done, Number, Flag, Prepared, Held, NotHeld, Refused}
use Rattle.peer_session.specs.declared.SessionState.{SessionState}
use Rattle.peer_session.specs.Sound.{sound_of}
use Rattle.session.specs.declared.Returned.{Returned}
use Rattle.session.specs.declared.Told.{Told}
use Rattle.parts.specs.declared.LinkAnswer.{LinkAnswer}
use Rattle.parts.specs.Codes.{answer_of}
use Rattle.parts.specs.Parts.{Parts, opened_of}

-- `Call s r` is the contract of the driver's call: what it says of the session s that it gets and of what it returns, r. p are the parts before the call,
-- p' after it. Parts that are no session that calls leave are not touched.
pub record Driven (p p' : Parts) (x : LinkAnswer) (Call : SessionState → Returned → Type 0) : Type 0 where
  pub returned : Returned
  pub called : Call (opened_of p) returned
  pub leaves : opened_of p' ≡ returned.session
  pub answers : x ≡ answer_of returned.answer returned.events
  pub kept : sound_of (opened_of p) ≡ false → p' ≡ p

-- the same of calls that change no session
pub record DrivenTold (p : Parts) (x : LinkAnswer) (Call : SessionState → Told → Type 0) : Type 0 where
  pub returned : Told
  pub called : Call (opened_of p) returned
  pub answers : x ≡ answer_of returned.answer returned.events

pub record DrivenAnswer (p : Parts) (x : LinkAnswer) (Call : SessionState → Answer → Type 0) : Type 0 where
  pub returned : Answer
  pub called : Call (opened_of p) returned
  pub answers : x ≡ answer_of returned 0

abbrev pub is_refusal : Answer → Bool
is_refusal Done = false
is_refusal (Number n) = false
is_refusal (Flag b) = false
is_refusal (Prepared c) = false
is_refusal (Held start n) = false
is_refusal NotHeld = false
is_refusal (Refused x) = true

-- the same of a start, which gets no session: a refused one leaves the parts that were there
pub record DrivenStart (p p' : Parts) (x : LinkAnswer) (Call : Returned → Type 0) : Type 0 where
  pub returned : Returned
  pub called : Call returned
  pub leaves : is_refusal returned.answer ≡ false → opened_of p' ≡ returned.session
  pub answers : x ≡ answer_of returned.answer returned.events
  pub kept : is_refusal returned.answer ≡ true → p' ≡ p
