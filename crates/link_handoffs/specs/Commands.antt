-- The steps of a command on the parts of a session. Assumes nothing.
use Rattle.std.specs.Prelude.{ℕ, ◌≤◌, ◌≡◌, Bool, true, false, List, Float, length, Result, Ok, Err}
use Rattle.rules.specs.declared.Refusal.{Refusal}
use Rattle.rules.specs.declared.Terms.{Terms}
use Rattle.std.proofs.Math.Option.{Option}
use Rattle.rules.specs.Lists.{Bytes}
use Rattle.rules.specs.State as R
use Rattle.rules.specs.Progress.{Outcome}
use Rattle.rules.specs.Handoff.{Command, command_size}
use Rattle.rules.specs.Calls.{commands}
use Rattle.outbox.specs.View.{ExactOutbox}
use Rattle.outbox.specs.Sound.{sound_outbox_of}
use Rattle.session.specs.declared.Returned.{Returned}
use Rattle.session.specs.Promise.{lent, Called, Turned}
use Rattle.setup.specs.Steps.{Comes}
use Rattle.parts.specs.declared.LinkAnswer.{LinkAnswer}
use Rattle.parts.specs.Codes.{answer_of}
use Rattle.parts.specs.Parts.{Parts, parts, at, flag, outbox_in, opened_of}
use Rattle.link_sending.specs.Sends.{Ready}
use Rattle.link_setup.specs.Steps.{Stages}

-- ---- the tests in their order, a send's and the body's: for a list of n words, an outbound store of m bytes and a body of which k bytes count

pub record NotCommanding (p : Parts) (n m k : ℕ) (x : Refusal) : Type 0 where
  pub call : (restoring : Bool) (c : Option Command) → k ≡ command_size c → (l : List ℕ) (o d q : Bytes) → length l ≡ n → length o ≡ m
      → 32768 ≤ length q → (r : Returned) → Turned (opened_of p) x r
      → Called (commands restoring c) (opened_of p) (lent l d o q) r (lent l d o q)

abbrev pub Found : Parts → ℕ → ℕ → ℕ → Result (Unit {0}) Refusal → Type 0
Found p n m k (Ok tt) = Ready p n m × (k ≤ 4096)
Found p n m k (Err x) = NotCommanding p n m k x

abbrev pub Enters : List ℕ → List ℕ → List ℕ → ℕ → ℕ → ℕ → Result (Unit {0}) Refusal → Type 0
Enters w h b n m k r = (t : Float) → Found (parts w h b t) n m k r

-- ---- setup started, where the command restores

abbrev pub no_terms : Terms
no_terms = record { number = 0; initiator = false }

pub record Starts (restoring : Bool) (h b h' b' : List ℕ) : Type 0 where
  pub starts : restoring ≡ true → Stages (at b 768) 2 no_terms h b h' b'
  pub halves : restoring ≡ false → h' ≡ h
  pub bytes : restoring ≡ false → b' ≡ b

-- ---- what a step of a command comes to, of a session whose parts are p before it and p' after it

pub record ComesIn (rule : R.State → Outcome) (p p' : Parts) (l : List ℕ) (o : Bytes) (x : LinkAnswer) (l' : List ℕ) (o' : Bytes) : Type 0 where
  pub returned : Returned
  pub comes : Comes rule (opened_of p) l o returned l' o'
  pub leaves : opened_of p' ≡ returned.session
  pub answers : x ≡ answer_of returned.answer returned.events

-- a handoff that is there, with a store of n bytes
pub record HoldingIn (w h b : List ℕ) (n : ℕ) : Type 0 where
  pub sound : sound_outbox_of (outbox_in w h b) ≡ true
  pub exact : ExactOutbox (outbox_in w h b) n
  pub long : 4936 ≤ length b
  pub within : at w 7 ≤ 4096
  pub present : flag (at b 775) ≡ true
