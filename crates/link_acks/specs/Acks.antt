-- The steps of an ack on the parts of a session. Assumes nothing.
use Rattle.std.specs.Prelude.{ℕ, ◌-◌, ◌≡◌, Bool, ◌||◌, List, ltb}
use Rattle.rules.specs.declared.Answer.TheVariants.{Refused}
use Rattle.rules.specs.declared.Refusal.TheVariants.{AckOutOfRange}
use Rattle.rules.specs.Lists.{Bytes}
use Rattle.acks.specs.Steps.{OutOfRange}
use Rattle.parts.specs.declared.LinkAnswer.{LinkAnswer}
use Rattle.parts.specs.Codes.{answer_of}
use Rattle.parts.specs.Parts.{Parts, opened_of}

-- ---- an ack of no message that was sent, by the next message's number

abbrev pub outside : ℕ → ℕ → Bool
outside number next = ltb number 1 || ltb (next - 1) number

pub record BeyondIn (p : Parts) (l : List ℕ) (q : Bytes) (x : LinkAnswer) (p' : Parts) (l' : List ℕ) (q' : Bytes) : Type 0 where
  pub events : ℕ
  pub breaks : OutOfRange (opened_of p) l q (record { session = opened_of p'; answer = Refused AckOutOfRange; events = events }) l' q'
  pub answers : x ≡ answer_of (Refused AckOutOfRange) events
