-- The steps of a setup on the parts of a session. Assumes nothing.
use Rattle.std.specs.Prelude.{ℕ, ◌≤◌, ◌<◌, ◌≡◌, true, List, Float, length, set, Result, Ok, Err}
use Rattle.rules.specs.declared.Answer.TheVariants.{Done}
use Rattle.rules.specs.declared.Clock.{Clock}
use Rattle.rules.specs.declared.Refusal.{Refusal}
use Rattle.rules.specs.declared.Terms.{Terms}
use Rattle.rules.specs.Lists.{Bytes}
use Rattle.rules.specs.Answers.{flag_value}
use Rattle.rules.specs.Setup.{is_none}
use Rattle.rules.specs.Calls.{accepts}
use Rattle.events.specs.Written.{Listed, asked}
use Rattle.peer_session.specs.Sound.{Checked}
use Rattle.session.specs.declared.Returned.{Returned}
use Rattle.session.specs.Promise.{lent, Called, Turned}
use Rattle.parts.specs.declared.LinkAnswer.{LinkAnswer}
use Rattle.parts.specs.Codes.{answer_of}
use Rattle.parts.specs.Parts.{Parts, parts, opened_of}

-- disposition d, and the setup of code c with these terms
pub record Stages (d c : ℕ) (terms : Terms) (h b h' b' : List ℕ) : Type 0 where
  pub halves : h' ≡ set h 771 terms.number
  pub bytes : b' ≡ set (set (set b 768 d) 769 c) 770 (flag_value terms.initiator)

-- done, and what is requested by a clock
pub record AsksIn (c : Clock) (l : List ℕ) (x : LinkAnswer) (l' : List ℕ) : Type 0 where
  pub events : ℕ
  pub listed : Listed (asked c) l 0 l' events
  pub answers : x ≡ answer_of Done events

-- ---- accept: the tests in their order, for an outbound store of n bytes

pub record Accepting (p : Parts) (terms : Terms) (n : ℕ) : Type 0 where
  pub checked : Checked (opened_of p) true
  pub outbound : 65536 ≤ n
  pub low : (opened_of p).clock.generation < 4294966000
  pub new : is_none (opened_of p).stage.setup ≡ true
  pub first : terms.initiator ≡ true → (opened_of p).outbox.next ≡ 1

pub record NotAccepting (p : Parts) (terms : Terms) (n : ℕ) (x : Refusal) : Type 0 where
  pub call : (l : List ℕ) (o b d q : Bytes) → length o ≡ n → 32768 ≤ length q → (r : Returned) → Turned (opened_of p) x r
      → Called (accepts terms b) (opened_of p) (lent l d o q) r (lent l d o q)

abbrev pub AcceptFound : Parts → Terms → ℕ → Result (Unit {0}) Refusal → Type 0
AcceptFound p terms n (Ok tt) = Accepting p terms n
AcceptFound p terms n (Err x) = NotAccepting p terms n x

abbrev pub AcceptEnters : Terms → List ℕ → List ℕ → List ℕ → ℕ → Result (Unit {0}) Refusal → Type 0
AcceptEnters terms w h b n r = (t : Float) → AcceptFound (parts w h b t) terms n r
